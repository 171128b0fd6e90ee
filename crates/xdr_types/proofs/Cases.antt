-- A set of the cases after one tells whether it is there again.
use Rattle.std.proofs.Common.{◌≡◌, ◌<◌, ◌+◌, ◌-◌, ℕ, zero, suc, ℤ, Bool, true, false, ◌||◌, List, [], ◌∷◌, length, map}
use Rattle.std.proofs.Common.{drop, get_or, int_cmp, int_eq, refl, sym, ap, ◌∙◌, arith}
use Rattle.std.proofs.Math.Bool.{or-true}
use Rattle.std.proofs.Math.Seq.{drop-length}
use Rattle.std.specs.BTreeSet.{BTreeSet, contains, Updates}
use Rattle.std.specs.List.{list_any}
use Rattle.xdr_types.specs.Kinds.{Branch}
use Rattle.xdr_types.specs.KindViews.{branch_of}
use Rattle.xdr_types.specs.Fits.{is_listed}
use Rattle.xdr_types.specs.Sound.{has_arm}
use Rattle.xdr_types.specs.Faults.{case_twice, arms_case_twice}
use Rattle.xdr_types.specs.declared.kind.Arm.{Arm}
use Rattle.xdr_types.proofs.Apart.{Naming, AreApart, repeats, or_cond, cut}

-- cases, and those that are there besides
abbrev pub by_case : (ℤ → Bool) → Naming ℤ ℤ
by_case besides = record { alike = λ q z. int_eq z q; name = λ z. z; counts = λ z. true; besides = besides }

listed : (cs : List ℤ) (z : ℤ) → list_any (λ (c : ℤ). int_eq c z) cs ≡ is_listed cs z
listed [] z = refl
listed (c ∷ cs) z = ap (λ b. int_eq c z || b) (listed cs z)

shuffle : (a b c d : Bool) → (a || b) || (c || d) ≡ (a || c) || (b || d)
shuffle true b c d = refl
shuffle false true true d = refl
shuffle false true false d = refl
shuffle false false c d = refl

pub cases : (has : ℤ → Bool) (cs : List ℤ) → repeats (by_case has) cs ≡ case_twice cs || list_any has cs
cases has [] = refl
cases has (c ∷ cs) = rw (listed cs c, cases has cs) (shuffle (is_listed cs c) (has c) (case_twice cs) (list_any has cs))

pub added_case : (s n : BTreeSet ℤ) (k c : ℤ) → k ≡ c → Updates int_cmp s n k true → (z : ℤ)
    → contains int_cmp n z ≡ int_eq c z || contains int_cmp s z
added_case s n k c e u z = u.0 z ∙ sym (or_cond (int_eq k z) (contains int_cmp s z))
    ∙ ap (λ y. int_eq y z || contains int_cmp s z) e

-- after all cases, the set has them and what it had
pub all_added : (cs : List ℤ) (i : ℕ) (had has : ℤ → Bool) → i ≡ length cs
    → AreApart (by_case had) (drop (length cs - i) cs) has → (z : ℤ) → has z ≡ is_listed cs z || had z
all_added cs i had has e h z =
    let none : length cs - i ≡ 0 = omega (arith, e) in
    sym ((rw none at h).names z) ∙ ap (λ b. b || had z) (listed cs z)

-- No case of the arms is there twice, and a set has all of them.
pub record AreOnce (arms : List Branch) (has : ℤ → Bool) : Type 0 where
  pub once : arms_case_twice arms ≡ false
  pub cases : (z : ℤ) → has_arm arms z ≡ has z

some_same : (f g : ℤ → Bool) → ((z : ℤ) → f z ≡ g z) → (cs : List ℤ) → list_any f cs ≡ list_any g cs
some_same f g e [] = refl
some_same f g e (c ∷ cs) = rw (e c, some_same f g e cs) refl

twice_from : (arms : List Arm) (j : ℕ) → arms_case_twice (map branch_of (drop j arms)) ≡ true
    → arms_case_twice (map branch_of arms) ≡ true
twice_from arms zero h = h
twice_from [] (suc j) h = h
twice_from (a ∷ arms) (suc j) h = rw (twice_from arms j h) (or-true _)

pub next_arm : (arms : List Arm) (i : ℕ) (a : Arm) (has new : ℤ → Bool) → i < length arms
    → a ≡ get_or arms (length arms - 1 - i) a
    → false ≡ case_twice a.cases.items || list_any has a.cases.items
    → ((z : ℤ) → new z ≡ is_listed a.cases.items z || has z)
    → AreOnce (map branch_of (drop (length arms - i) arms)) has
    → AreOnce (map branch_of (drop (length arms - (i + 1)) arms)) new
next_arm arms i a has new lt is not u h =
    let here : length arms - (i + 1) ≡ length arms - 1 - i = omega (arith, lt) in
    let later : List Branch = map branch_of (drop (length arms - i) arms) in
    let first : case_twice a.cases.items || list_any (has_arm later) a.cases.items ≡ false =
    ap (λ b. case_twice a.cases.items || b) (some_same (has_arm later) has h.cases a.cases.items) ∙ sym not in
    rw (here, cut arms i a a lt is) (record {
      once = rw (first, h.once) refl;
      cases = λ z. ap (λ b. is_listed a.cases.items z || b) (h.cases z) ∙ sym (u z);
    })

pub found_arm : (arms : List Arm) (i : ℕ) (a : Arm) (has : ℤ → Bool) → i < length arms
    → a ≡ get_or arms (length arms - 1 - i) a
    → true ≡ case_twice a.cases.items || list_any has a.cases.items
    → AreOnce (map branch_of (drop (length arms - i) arms)) has → true ≡ arms_case_twice (map branch_of arms)
found_arm arms i a has lt is there h =
    let later : List Branch = map branch_of (drop (length arms - i) arms) in
    let first : case_twice a.cases.items || list_any (has_arm later) a.cases.items ≡ true =
    ap (λ b. case_twice a.cases.items || b) (some_same (has_arm later) has h.cases a.cases.items) ∙ sym there in
    let here : arms_case_twice (map branch_of (drop (length arms - 1 - i) arms)) ≡ true =
    rw (cut arms i a a lt is) (rw first refl) in
    sym (twice_from arms (length arms - 1 - i) here)

pub begin_arms : (arms : List Arm) (s : BTreeSet ℤ) → s.keys ≡ []
    → AreOnce (map branch_of (drop (length arms - 0) arms)) (contains int_cmp s)
begin_arms arms s e =
    let all : length arms - 0 ≡ length arms = omega arith in
    let none : (z : ℤ) → contains int_cmp s z ≡ false = λ z. rw e refl in
    rw (all, drop-length arms) (record { once = refl; cases = λ z. sym (none z) })

pub end_arms : (arms : List Arm) (i : ℕ) (has : ℤ → Bool) → i ≡ length arms
    → AreOnce (map branch_of (drop (length arms - i) arms)) has → false ≡ arms_case_twice (map branch_of arms)
end_arms arms i has e h =
    let none : length arms - i ≡ 0 = omega (arith, e) in
    sym ((rw none at h).once)
