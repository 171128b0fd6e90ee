-- What is told of a kind is determined by its values: there is one answer.
use Rattle.std.proofs.Common.{◌≡◌, ℕ, ◌^◌, ◌<◌, ◌≤◌, List, length, Option, Some, None, MatchOption, IfSome, ap}
use Rattle.std.proofs.Common.{slice_index_or}
use Rattle.std.proofs.Common.{refl, ◌∙◌, arith}
use Rattle.xdr_types.specs.Kinds.{KindView}
use Rattle.xdr_types.specs.Spelling.{bytes_of}
use Rattle.xdr_bounds.specs.Bounds.{IsLeast, IsGreatest, IsUnbounded, IsLeastAnswer, IsGreatestAnswer, IsRange}
use Rattle.xdr_bounds.specs.Bounds.{AreRanges}
use Rattle.xdr_bounds.specs.declared.greatest.Greatest.{Greatest}
use Rattle.xdr_bounds.specs.declared.greatest.Greatest.TheVariants as greatest
use Rattle.xdr_bounds.specs.declared.range.Range.{Range}

pub least_one : (kinds : List KindView) (place m n : ℕ) → IsLeast kinds place m → IsLeast kinds place n → m ≡ n
least_one kinds place m n a b =
    let low : m ≤ length (bytes_of kinds place b.one.0) = a.every b.one.0 b.one.1 in
    let high : n ≤ length (bytes_of kinds place a.one.0) = b.every a.one.0 a.one.1 in
    let this : length (bytes_of kinds place a.one.0) ≡ m = a.one.2 in
    let that : length (bytes_of kinds place b.one.0) ≡ n = b.one.2 in omega arith

pub greatest_one : (kinds : List KindView) (place m n : ℕ) → IsGreatest kinds place m → IsGreatest kinds place n → m ≡ n
greatest_one kinds place m n a b =
    let high : length (bytes_of kinds place b.one.0) ≤ m = a.every b.one.0 b.one.1 in
    let low : length (bytes_of kinds place a.one.0) ≤ n = b.every a.one.0 a.one.1 in
    let this : length (bytes_of kinds place a.one.0) ≡ m = a.one.2 in
    let that : length (bytes_of kinds place b.one.0) ≡ n = b.one.2 in omega arith

pub is_least : (kinds : List KindView) (place n : ℕ) (a : Option ℕ) → IsLeast kinds place n → n < 2 ^ 64
    → IsLeastAnswer kinds place a → a ≡ Some n
is_least kinds place n None least small h =
    let some : 2 ^ 64 ≤ length (bytes_of kinds place least.one.0) = h least.one.0 least.one.1 in
    let is : length (bytes_of kinds place least.one.0) ≡ n = least.one.2 in absurd (omega arith)
is_least kinds place n (Some m) least small h = ap Some (least_one kinds place m n h least)

pub is_greatest : (kinds : List KindView) (place n : ℕ) (g : Greatest) → IsGreatest kinds place n → n < 2 ^ 64
    → IsGreatestAnswer kinds place g → g ≡ greatest.Bytes n
is_greatest kinds place n (greatest.Bytes m) most small h =
    ap (λ (x : ℕ). greatest.Bytes x) (greatest_one kinds place m n h most)
is_greatest kinds place n greatest.MoreThanU64 most small h =
    let same : h.0 ≡ n = greatest_one kinds place h.0 n h.2 most in
    let large : 2 ^ 64 ≤ h.0 = h.1 in absurd (omega arith)
is_greatest kinds place n greatest.Unbounded most small h =
    let t = h n in
    let more : n < length (bytes_of kinds place t.0) = t.2 in
    let few : length (bytes_of kinds place t.0) ≤ n = most.every t.0 t.1 in absurd (omega arith)

more_than : (kinds : List KindView) (place m : ℕ) → IsUnbounded kinds place → IsGreatest kinds place m → ⊥
more_than kinds place m more most =
    let t = more m in
    let above : m < length (bytes_of kinds place t.0) = t.2 in
    let below : length (bytes_of kinds place t.0) ≤ m = most.every t.0 t.1 in omega arith

pub is_unbounded : (kinds : List KindView) (place : ℕ) (g : Greatest) → IsUnbounded kinds place
    → IsGreatestAnswer kinds place g → g ≡ greatest.Unbounded
is_unbounded kinds place (greatest.Bytes m) more h = absurd (more_than kinds place m more h)
is_unbounded kinds place greatest.MoreThanU64 more h = absurd (more_than kinds place h.0 more h.2)
is_unbounded kinds place greatest.Unbounded more h = refl

-- the range at a place of a list
abbrev pub IsAt : List Range → (place : ℕ) → Option Range → Type 0
IsAt ranges place r =
    MatchOption r (length ranges ≤ place) (λ x. (place < length ranges) × (x ≡ slice_index_or ranges place x))

both_told : (x : Range) (a : Option ℕ) (g : Greatest) → x.least ≡ a → x.greatest ≡ g
    → Some x ≡ Some (record { least = a; greatest = g })
both_told x a g of_least of_greatest =
    let at : Option ℕ → Greatest → Option Range = λ b h. Some (record { least = b; greatest = h }) in
    ap (λ (b : Option ℕ). at b x.greatest) of_least ∙ ap (λ (h : Greatest). at a h) of_greatest

-- so one range is told of a kind that is there
pub told : (kinds : List KindView) (ranges : List Range) (place : ℕ) (a : Option ℕ) (g : Greatest) (r : Option Range)
    → AreRanges kinds ranges → place < length kinds
    → ((b : Option ℕ) → IsLeastAnswer kinds place b → b ≡ a)
    → ((h : Greatest) → IsGreatestAnswer kinds place h → h ≡ g) → IsAt ranges place r
    → ((ks : List KindView) → AreRanges ks ranges → IfSome r (IsRange ks place))
    → r ≡ Some (record { least = a; greatest = g })
told kinds ranges place a g None are within fewest most past right = absurd (omega (arith, are.lengths))
told kinds ranges place a g (Some x) are within fewest most at right =
    let range = right kinds are in both_told x a g (fewest x.least range.least) (most x.greatest range.greatest)

-- and none of another
pub none_told : (kinds : List KindView) (ranges : List Range) (place : ℕ) (r : Option Range)
    → AreRanges kinds ranges → length kinds ≤ place → IsAt ranges place r → r ≡ None
none_told kinds ranges place None are past at = refl
none_told kinds ranges place (Some x) are past at =
    let inside : place < length ranges = at.0 in absurd (omega (arith, are.lengths))
