-- Each case of a union of a schema is a number that its discriminant may have.
use Rattle.std.proofs.Common.{◌≡◌, ℕ, ◌<◌, ℤ, List, [], ◌∷◌, length, Bool, true, false, not, ◌||◌, if◌then◌else◌}
use Rattle.std.proofs.Common.{Option, Some, None, is_some, refl, sym, subst}
use Rattle.std.specs.Prelude.{option_map}
use Rattle.std.specs.List.{list_any}
use Rattle.std.proofs.lemmas.Bool.{false≢true, not-false}
use Rattle.std.specs.Ordering.{int_eq}
use Rattle.std.proofs.lemmas.Bool.Decides.{Decides-int_eq}
use Rattle.xdr_types.specs.Kinds.{KindView, Part, Branch, Lists, kind_at, choice}
use Rattle.xdr_types.specs.Fits.{is_listed, is_tag_of, part_of}
use Rattle.xdr_types.specs.Faults.{has_unknown, is_zero_size, has_void, has_bad_tag, has_case_twice}
use Rattle.xdr_types.specs.Faults.{has_illegal_case, kind_flaw, IsWellFormed}
use Rattle.xdr_types.specs.declared.fault.Flaw.TheVariants as flaw
use Rattle.xdr_types.proofs.Inhabited.{or-false, if-none}

-- ---- what no fault finds

no_flaw : (s : List KindView) (f : KindView) → kind_flaw s f ≡ None → has_illegal_case s f ≡ false
no_flaw s f e =
    let e1 = (if-none (has_unknown s f) flaw.UnknownKind _ e).1 in
    let e2 = (if-none (is_zero_size f) flaw.ZeroSize _ e1).1 in
    let e3 = (if-none (has_void s f) flaw.VoidMember _ e2).1 in
    let e4 = (if-none (has_bad_tag s f) flaw.BadDiscriminant _ e3).1 in
    let e5 = (if-none (has_case_twice f) flaw.CaseTwice _ e4).1 in
    (if-none (has_illegal_case s f) flaw.CaseNotLegal _ e5).0

pub cases_legal : (s : Lists) → IsWellFormed s → (place : ℕ) → place < length s.kinds
    → has_illegal_case s.kinds (kind_at s.kinds place) ≡ false
cases_legal s well place known = no_flaw s.kinds (kind_at s.kinds place) (well.kinds place known)

-- ---- a number that a case has

module _ (legal : ℤ → Bool) where
  listed_legal : (cs : List ℤ) (z : ℤ) → list_any (λ (c : ℤ). not (legal c)) cs ≡ false → is_listed cs z ≡ true
      → legal z ≡ true
  listed_legal [] z h k = absurd (false≢true k)
  listed_legal (c ∷ cs) z h k =
      let hs = or-false (not (legal c)) (list_any (λ (c : ℤ). not (legal c)) cs) h in
      by_first (int_eq c z) refl k hs.0 (listed_legal cs z hs.1)
    where
      by_first : (b : Bool) → int_eq c z ≡ b → b || is_listed cs z ≡ true → not (legal c) ≡ false
          → (is_listed cs z ≡ true → legal z ≡ true) → legal z ≡ true
      by_first true e k here rest =
          subst (λ (x : ℤ). legal x ≡ true) ((Decides-int_eq c z).0 e) (not-false (legal c) here)
      by_first false e k here rest = rest k

  -- without a default, what has a part is a case
  part_legal : (arms : List Branch) (z : ℤ) (p : Part)
      → list_any (λ (a : Branch). list_any (λ (c : ℤ). not (legal c)) a.cases) arms ≡ false
      → part_of arms None z ≡ Some p → legal z ≡ true
  part_legal [] z p h k = cc
  part_legal (a ∷ arms) z p h k =
      let hs = or-false (list_any (λ (c : ℤ). not (legal c)) a.cases)
      (list_any (λ (a : Branch). list_any (λ (c : ℤ). not (legal c)) a.cases) arms) h in
      by_first (is_listed a.cases z) refl k (listed_legal a.cases z hs.0) (part_legal arms z p hs.1)
    where
      by_first : (b : Bool) → is_listed a.cases z ≡ b → (if b then Some a.part else part_of arms None z) ≡ Some p
          → (is_listed a.cases z ≡ true → legal z ≡ true) → (part_of arms None z ≡ Some p → legal z ≡ true)
          → legal z ≡ true
      by_first true e k here rest = here e
      by_first false e k here rest = rest k

pub case_legal : (s : List KindView) (tag : ℕ) (arms : List Branch) (other : Option Part) (z : ℤ) (p : Part)
    → has_illegal_case s (choice tag arms other) ≡ false → is_some other ≡ false → part_of arms other z ≡ Some p
    → is_tag_of (kind_at s tag) z ≡ true
case_legal s tag arms None z p h none k = part_legal (is_tag_of (kind_at s tag)) arms z p h k
case_legal s tag arms (Some q) z p h none k = absurd (false≢true (sym none))

pub none_mapped : {A B : Type 0} (f : A → B) (o : Option A) → is_some o ≡ false → is_some (option_map f o) ≡ false
none_mapped f None h = refl
none_mapped f (Some a) h = absurd (false≢true (sym h))
