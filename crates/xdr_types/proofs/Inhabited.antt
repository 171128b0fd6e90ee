-- Every kind of a well formed and sound schema has a value.
use Rattle.std.proofs.Common.{◌≡◌, ℕ, zero, suc, ◌+◌, ◌<◌, ℤ, pos, List, [], ◌∷◌, length, replicate, get_or, Bool, true}
use Rattle.std.proofs.Common.{false, not, ◌&&◌, ◌||◌, if◌then◌else◌, Option, Some, None, is_some, refl, ap, sym, ◌∙◌}
use Rattle.std.proofs.Common.{◌^◌, subst, arith, eq-eqb, le-leb, inl, inr}
use Rattle.std.specs.List.{list_any, AllByRecursion}
use Rattle.std.specs.Ordering.{int_eq}
use Rattle.std.proofs.lemmas.Bool.{false≢true, not-false}
use Rattle.std.proofs.lemmas.Bool.Decides.{Decides-int_eq}
use Rattle.std.proofs.lemmas.List.{length-replicate}
use Rattle.std.proofs.lemmas.Bool.{and_from as all-true, or_right as or-right, or_left as or-left, or_cases as one_of}
use Rattle.xdr_types.specs.Kinds as xdr
use Rattle.xdr_types.specs.Kinds.{KindView, Part, Branch, Constant, Lists, kind_at}
use Rattle.xdr_types.specs.Tree as value
use Rattle.xdr_types.specs.Tree.{Head, Values, Tree, from_list}
use Rattle.xdr_types.specs.Fits.{fits, fit, is_legal, is_tag_of, is_listed, is_signed, is_constant, part_of, parts}
use Rattle.xdr_types.specs.Fits.{optional_part, item_part, are_bytes}
use Rattle.xdr_types.specs.Sound.{Heighting, IsBelow, Asks, IsProper, IsSound, has_arm}
use Rattle.xdr_types.specs.Faults.{is_none, has_unknown, is_zero_size, has_void, has_bad_tag, has_case_twice}
use Rattle.xdr_types.specs.Faults.{arms_case_twice, case_twice, has_illegal_case, has_empty_list, kind_flaw}
use Rattle.xdr_types.specs.Faults.{IsWellFormed}
use Rattle.xdr_types.specs.declared.fault.Flaw.{Flaw}
use Rattle.xdr_types.specs.declared.fault.Flaw.TheVariants as flaw
use Rattle.xdr_types.proofs.Heighting.{asks-mono, known}

abbrev HasValue : List KindView → ℕ → Type 0
HasValue kinds place = (t : Tree) × (fits kinds place t ≡ true)

pub or-false : (a b : Bool) → a || b ≡ false → (a ≡ false) × (b ≡ false)
or-false false b h = (refl, h)
or-false true b h = absurd (false≢true (sym h))

-- ---- what it means that no fault is found

pub if-none : (b : Bool) (w : Flaw) (rest : Option Flaw) → (if b then Some w else rest) ≡ None → (b ≡ false)
    × (rest ≡ None)
if-none true w rest e = cc
if-none false w rest e = (refl, e)

pub record Sane (kinds : List KindView) (f : KindView) : Type 0 where
  pub known : has_unknown kinds f ≡ false
  pub once : has_case_twice f ≡ false
  pub legal : has_illegal_case kinds f ≡ false
  pub full : has_empty_list f ≡ false

sane : (kinds : List KindView) (f : KindView) → kind_flaw kinds f ≡ None → Sane kinds f
sane kinds f e =
    let e1 = if-none (has_unknown kinds f) flaw.UnknownKind _ e in
    let e2 = (if-none (is_zero_size f) flaw.ZeroSize _ e1.1).1 in
    let e3 = (if-none (has_void kinds f) flaw.VoidMember _ e2).1 in
    let e4 = (if-none (has_bad_tag kinds f) flaw.BadDiscriminant _ e3).1 in
    let e5 = if-none (has_case_twice f) flaw.CaseTwice _ e4 in
    let e6 = if-none (has_illegal_case kinds f) flaw.CaseNotLegal _ e5.1 in
    let e7 = if-none (has_empty_list f) flaw.EmptyList _ e6.1 in
    record { known = e1.0; once = e5.0; legal = e6.0; full = e7.0 }

pub all-sane : (s : Lists) → IsWellFormed s → (place : ℕ) → place < length s.kinds
    → Sane s.kinds (kind_at s.kinds place)
all-sane s well place h = sane s.kinds (kind_at s.kinds place) (well.kinds place h)

-- ---- tags

first-case : (legal : ℤ → Bool) (cs : List ℤ) → is_none cs ≡ false → list_any (λ (z : ℤ). not (legal z)) cs ≡ false
    → (z : ℤ) × (is_listed cs z ≡ true) × (legal z ≡ true)
first-case legal [] h k = absurd (false≢true (sym h))
first-case legal (c ∷ cs) h k = (
  c,
  or-left (int_eq c c) (is_listed cs c) ((Decides-int_eq c c).1 refl),
  not-false (legal c)
      (or-false (not (legal c)) (list_any (λ (z : ℤ). not (legal z)) cs) k).0,
)

-- a case of a later arm stands in no earlier one
unlisted : (arms : List Branch) (cs : List ℤ) (z : ℤ) → list_any (has_arm arms) cs ≡ false → has_arm arms z ≡ true
    → is_listed cs z ≡ false
unlisted arms [] z h k = refl
unlisted arms (c ∷ cs) z h k =
    let hs = or-false (has_arm arms c) (list_any (has_arm arms) cs) h in
    let rest : is_listed cs z ≡ false = unlisted arms cs z hs.1 k in
    differs (int_eq c z) refl hs.0 rest
  where
    differs : (b : Bool) → int_eq c z ≡ b → has_arm arms c ≡ false → is_listed cs z ≡ false
        → int_eq c z || is_listed cs z ≡ false
    differs true e none rest = absurd (false≢true (sym none ∙ ap (has_arm arms) ((Decides-int_eq c z).0 e) ∙ k))
    differs false e none rest = rw e rest

record Tagged (legal : ℤ → Bool) (arms : List Branch) (other : Option Part) (part : Part) : Type 0 where
  pub z : ℤ
  pub tag : legal z ≡ true
  pub listed : has_arm arms z ≡ true
  pub picks : part_of arms other z ≡ Some part

arm-tag : (legal : ℤ → Bool) (other : Option Part) (arms : List Branch) (k : ℕ) (a : Branch) → k < length arms
    → get_or arms k a ≡ a
    → list_any (λ (b : Branch). is_none b.cases) arms ≡ false
    → list_any (λ (b : Branch). list_any (λ (z : ℤ). not (legal z)) b.cases) arms ≡ false
    → arms_case_twice arms ≡ false
    → Tagged legal arms other a.part
arm-tag legal other [] k a h is full fine once = absurd (omega arith)
arm-tag legal other (b ∷ arms) zero a h is full fine once =
    let found = first-case legal b.cases
    (or-false (is_none b.cases) (list_any (λ (b : Branch). is_none b.cases) arms) full).0
    (or-false (list_any (λ (z : ℤ). not (legal z)) b.cases)
    (list_any (λ (b : Branch). list_any (λ (z : ℤ). not (legal z)) b.cases) arms) fine).0 in
    let same : b.part ≡ a.part = ap (λ (x : Branch). x.part) is in
    let here : is_listed b.cases found.0 ≡ true = found.1 in
    record {
      z = found.0;
      tag = found.2;
      listed = or-left (is_listed b.cases found.0) (has_arm arms found.0) here;
      picks = rw here (ap Some same);
    }
arm-tag legal other (b ∷ arms) (suc k) a h is full fine once =
    let twice = or-false (case_twice b.cases || list_any (has_arm arms) b.cases) (arms_case_twice arms) once in
    let apart = or-false (case_twice b.cases) (list_any (has_arm arms) b.cases) twice.0 in
    let found = arm-tag legal other arms k a (omega arith) is
    (or-false (is_none b.cases) (list_any (λ (b : Branch). is_none b.cases) arms) full).1
    (or-false (list_any (λ (z : ℤ). not (legal z)) b.cases)
    (list_any (λ (b : Branch). list_any (λ (z : ℤ). not (legal z)) b.cases) arms) fine).1 twice.1 in
    let there : is_listed b.cases found.z ≡ false = unlisted arms b.cases found.z apart.1 found.listed in
    record {
      z = found.z;
      tag = found.tag;
      listed = or-right (is_listed b.cases found.z) (has_arm arms found.z) found.listed;
      picks = rw there found.picks;
    }

other-part : (arms : List Branch) (other : Option Part) (z : ℤ) → has_arm arms z ≡ false → part_of arms other z ≡ other
other-part [] other z h = refl
other-part (b ∷ arms) other z h =
    let hs = or-false (is_listed b.cases z) (has_arm arms z) h in
    let none : is_listed b.cases z ≡ false = hs.0 in
    rw none (other-part arms other z hs.1)

a-number : (cs : List Constant) → list_any (λ (c : Constant). is_signed (2 ^ 31) c.number) cs ≡ true
    → (z : ℤ) × (is_signed (2 ^ 31) z ≡ true) × (is_constant cs z ≡ true)
a-number [] h = absurd (false≢true h)
a-number (c ∷ cs) h =
    elim (one_of (is_signed (2 ^ 31) c.number) (list_any (λ (c : Constant). is_signed (2 ^ 31) c.number) cs) h) [
      | inl here ↦ (
        c.number,
        here,
        or-left (int_eq c.number c.number) (is_constant cs c.number)
            ((Decides-int_eq c.number c.number).1 refl),
      )
      | inr there ↦ let found = a-number cs there in
          (found.0, found.1, or-right (int_eq c.number found.0) (is_constant cs found.0) found.2)
    ]

-- ---- values

repeated : (kinds : List KindView) (p : Part) (t : Tree) → fits kinds p.kind t ≡ true → (n : ℕ)
    → fit kinds (replicate n p) (from_list (replicate n t)) ≡ true
repeated kinds p t h zero = refl
repeated kinds p t h (suc n) = all-true (fits kinds p.kind t) (fit kinds (replicate n p) (from_list (replicate n t))) h
    (repeated kinds p t h n)

each : (kinds : List KindView) (ps : List Part) → AllByRecursion (λ (p : Part). HasValue kinds p.kind) ps
    → (vs : Values) × (fit kinds ps vs ≡ true)
each kinds [] h = (value.none, refl)
each kinds (p ∷ ps) h =
    let rest = each kinds ps h.1 in
    (value.node h.0.0.0 h.0.0.1 rest.0, all-true (fits kinds p.kind h.0.0) (fit kinds ps rest.0) h.0.1 rest.1)

-- a tree is a value of a form
abbrev Is : List KindView → KindView → Tree → Type 0
Is kinds f t = is_legal kinds f t.0 && fit kinds (parts f t.0) t.1 ≡ true

with_part : (kinds : List KindView) (tag : ℕ) (arms : List Branch) (other : Option Part) (part : Part) (z : ℤ)
    (v : HasValue kinds part.kind) → is_tag_of (kind_at kinds tag) z ≡ true → part_of arms other z ≡ Some part
    → (t : Tree) × Is kinds (xdr.choice tag arms other) t
with_part kinds tag arms other part z v legal e =
    let inner : fit kinds (optional_part (part_of arms other z)) (from_list (v.0 ∷ [])) ≡ true =
    subst (λ (o : Option Part). fit kinds (optional_part o) (from_list (v.0 ∷ [])) ≡ true) (sym e)
    (all-true (fits kinds part.kind v.0) true v.1 refl) in
    ((value.tag z, from_list (v.0 ∷ [])), all-true _ _ (all-true _ _ legal (ap is_some e)) inner)

zeros : (n : ℕ) → are_bytes (replicate n 0) ≡ true
zeros zero = refl
zeros (suc n) = zeros n

value_of : (kinds : List KindView) (f : KindView) → Sane kinds f → Asks kinds (HasValue kinds) f
    → (t : Tree) × Is kinds f t
value_of kinds xdr.int s h = ((value.int (pos 0), value.none), refl)
value_of kinds xdr.unsigned s h = ((value.unsigned 0, value.none), refl)
value_of kinds xdr.hyper s h = ((value.hyper (pos 0), value.none), refl)
value_of kinds xdr.unsigned_hyper s h = ((value.unsigned_hyper 0, value.none), refl)
value_of kinds xdr.boolean s h = ((value.boolean false, value.none), refl)
value_of kinds (xdr.numbered cs) s h =
    let found = a-number cs (not-false (list_any (λ (c : Constant). is_signed (2 ^ 31) c.number) cs) s.full) in
    ((value.numbered found.0, value.none), all-true _ _ (all-true _ _ found.1 found.2) refl)
value_of kinds (xdr.opaque size) s h = (
  (value.bytes (replicate size 0), value.none),
  all-true _ _
      (all-true _ _ (eq-eqb (length (replicate size 0)) size (length-replicate size 0)) (zeros size)) refl,
)
value_of kinds (xdr.opaque_up_to max) s h = (
  (value.bytes [], value.none),
  all-true _ _
      (all-true _ _ (all-true _ _ (le-leb 0 max (omega arith)) refl) refl) refl,
)
value_of kinds (xdr.text max) s h = (
  (value.bytes [], value.none),
  all-true _ _
      (all-true _ _ (all-true _ _ (le-leb 0 max (omega arith)) refl) refl) refl,
)
value_of kinds (xdr.fixed item size) s h = (
  (value.items size, from_list (replicate size h.0)),
  all-true _ _ (eq-eqb size size refl)
      (repeated kinds (item_part item) h.0 h.1 size),
)
value_of kinds (xdr.up_to item max) s h =
    ((value.items 0, value.none), all-true _ _ (all-true _ _ (le-leb 0 max (omega arith)) refl) refl)
value_of kinds (xdr.structure ps) s h = let vs = each kinds ps h in ((value.fields, vs.0), vs.1)
value_of kinds (xdr.choice tag arms other) s h =
    elim h.1 [
      | inl arm ↦
          let empty = or-false (is_none arms) (list_any (λ (a : Branch). is_none a.cases) arms) s.full in
          let found = arm-tag (is_tag_of
          (kind_at kinds tag)) other arms arm.1.0 arm.0 arm.1.1 arm.1.2 empty.1 s.legal s.once in
          with_part kinds tag arms other h.0 found.z h.2 found.tag (found.picks ∙ ap Some arm.2)
      | inr rest ↦ with_part kinds tag arms other h.0 rest.1.0 h.2 rest.1.1
          (other-part arms other rest.1.0 rest.1.2 ∙ rest.0)
    ]
value_of kinds (xdr.maybe item) s h = ((value.absent, value.none), refl)
value_of kinds xdr.nothing s h = ((value.nothing, value.none), refl)
value_of kinds xdr.unknown s h = absurd h

valued : (s : Lists) → IsWellFormed s → (height : Heighting) → IsProper s.kinds height → (bound place m : ℕ) → m < bound
    → height place ≡ Some m → place < length s.kinds → HasValue s.kinds place
valued s well height proper zero place m b e within = absurd (omega arith)
valued s well height proper (suc bound) place m b e within =
    value_of s.kinds (kind_at s.kinds place) (all-sane s well place within)
    (asks-mono s.kinds (IsBelow height m) (HasValue s.kinds)
    (λ q below. valued s well height proper bound q below.0 (omega (arith, below.2)) below.1
    (known s.kinds q (IsBelow height below.0) (proper q below.0 below.1))) (kind_at s.kinds place)
    (proper place m e))

pub each_kind : (s : Lists) → IsWellFormed s → IsSound s.kinds → (place : ℕ) → place < length s.kinds
    → HasValue s.kinds place
each_kind s well sound place within =
    let h = sound place within in
    valued s well h.0 h.2 (h.1 + 1) place h.1 (omega arith) h.3 within
