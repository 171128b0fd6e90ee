-- The first element that passes a test, found from the last element on.
use Rattle.std.proofs.Common.{◌≡◌, ◌<◌, ◌+◌, ◌-◌, ◌||◌, ℕ, ℤ, pos, Bool, true, false, List, length, map, drop}
use Rattle.std.proofs.Common.{get_or, int_eq}
use Rattle.std.proofs.Common.{Some, cond, refl, ap, subst, arith, ◌∷◌, ◌^◌, String, inl, inr}
use Rattle.std.specs.declared.alloc.Global.{Global}
use Rattle.std.proofs.lemmas.Bool.{cases_Bool as tested}
use Rattle.std.proofs.lemmas.Bool.Decides.{Decides-int_eq}
use Rattle.std.specs.List.{position_from}
use Rattle.xdr_types.specs.Kinds.{Constant}
use Rattle.xdr_types.specs.KindViews.{constant_of, branch_of}
use Rattle.xdr_types.specs.Fits.{is_listed, is_numbered, is_signed}
use Rattle.xdr_types.specs.Sound.{has_arm}
use Rattle.xdr_types.specs.declared.kind.Arm.{Arm}
use Rattle.xdr_types.proofs.Apart.{cut}

pub first_of_more : {A B : Type 0} (f : A → B) (test : B → Bool) (xs : List A) (i : ℕ) (d x : A) → i < length xs
    → x ≡ get_or xs (length xs - 1 - i) d
    → position_from test (length xs - (i + 1)) (map f (drop (length xs - (i + 1)) xs)) ≡ cond (test (f x))
    (Some (length xs - 1 - i)) (position_from test (length xs - i) (map f (drop (length xs - i) xs)))
first_of_more f test xs i d x lt is =
    let here : length xs - (i + 1) ≡ length xs - 1 - i = omega (arith, lt) in
    let after : length xs - 1 - i + 1 ≡ length xs - i = omega (arith, lt) in
    rw (here, cut xs i d x lt is)
    (ap (λ (k : ℕ). cond (test (f x)) (Some (length xs - 1 - i))
    (position_from test k (map f (drop (length xs - i) xs)))) after)

pub listed_of_more : (cs : List ℤ) (i : ℕ) (k z : ℤ) → i < length cs → k ≡ get_or cs (length cs - 1 - i) (pos 0)
    → is_listed (drop (length cs - (i + 1)) cs) z ≡ int_eq k z || is_listed (drop (length cs - i) cs) z
listed_of_more cs i k z lt is =
    let here : length cs - (i + 1) ≡ length cs - 1 - i = omega (arith, lt) in
    rw (here, cut cs i (pos 0) k lt is) refl

pub either : {A : Type 0} (a b : Bool) (x y : A) → cond a x (cond b x y) ≡ cond (a || b) x y
either true b x y = refl
either false b x y = refl

pub arm_of_more : (arms : List Arm) (i : ℕ) (a : Arm) (z : ℤ) → i < length arms
    → a ≡ get_or arms (length arms - 1 - i) a
    → has_arm (map branch_of (drop (length arms - (i + 1)) arms)) z
    ≡ is_listed a.cases.items z || has_arm (map branch_of (drop (length arms - i) arms)) z
arm_of_more arms i a z lt is =
    let here : length arms - (i + 1) ≡ length arms - 1 - i = omega (arith, lt) in
    rw (here, cut arms i a a lt is) refl

-- a number that is an int is one of more members, where it is the first one's or one of the others
one_of_more : (c : Constant) (cs : List Constant) (z : ℤ) → is_signed (2 ^ 31) c.number ≡ true
    → is_numbered (c ∷ cs) z ≡ int_eq c.number z || is_numbered cs z
one_of_more c cs z int =
    elim (tested (int_eq c.number z)) [
      | inl h ↦
          let fits : is_signed (2 ^ 31) z ≡ true =
          subst (λ (y : ℤ). is_signed (2 ^ 31) y ≡ true) ((Decides-int_eq c.number z).0 h) int in
          rw (h, fits) refl
      | inr h ↦ rw h refl
    ]

pub number_of_more : (ms : List (String Global × ℤ)) (i : ℕ) (m : String Global × ℤ) (z : ℤ) → i < length ms
    → m ≡ get_or ms (length ms - 1 - i) m → is_signed (2 ^ 31) m.1 ≡ true
    → is_numbered (map constant_of (drop (length ms - (i + 1)) ms)) z
    ≡ int_eq m.1 z || is_numbered (map constant_of (drop (length ms - i) ms)) z
number_of_more ms i m z lt is int =
    let here : length ms - (i + 1) ≡ length ms - 1 - i = omega (arith, lt) in
    rw (here, cut ms i m m lt is) (one_of_more (constant_of m) (map constant_of (drop (length ms - i) ms)) z int)
