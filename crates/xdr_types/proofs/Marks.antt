-- What the tests of marks say.
use Rattle.std.proofs.Common.{◌≡◌, ℕ, zero, suc, ◌+◌, ◌<◌, List, [], ◌∷◌, length, get_or, Option, Some, None, Bool}
use Rattle.std.proofs.Common.{true, false, ◌&&◌, IsTrue, ◌↔◌, refl, ap, sym, ◌∙◌, subst, arith, add-one}
use Rattle.std.proofs.Common.{inl, inr, replicate, map, is_some}
use Rattle.std.specs.List.{AllByRecursion, Contains}
use Rattle.std.proofs.lemmas.Bool.{false≢true}
use Rattle.std.proofs.lemmas.List.{get_or-map, get_or_read, length-replicate}
use Rattle.std.proofs.lemmas.Bool.{and_parts as both, and_from as both_of, or_cases as one_of}
use Rattle.std.proofs.lemmas.Bool.{or_right as or_later}
use Rattle.std.proofs.lemmas.Option.{none-some}
use Rattle.xdr_types.specs.KindViews.{kind_view, part_of_member}
use Rattle.xdr_types.specs.declared.kind.Kind.{Kind}
use Rattle.xdr_types.specs.declared.kind.Member.{Member}
use Rattle.xdr_types.specs.Kinds as xdr
use Rattle.xdr_types.specs.Kinds.{KindView, Part, Branch, kind_at}
use Rattle.xdr_types.specs.Faults.{some_optional}
use Rattle.xdr_types.specs.Sound.{Asks, HasFreeTag}
use Rattle.xdr_types.specs.Private.Rounds.{height_in, missing, AreHeights, is_marked, IsMarked, are_marked, some_marked}
use Rattle.xdr_types.specs.Private.Sets.{IsReached}

is_none_of : (o : Option ℕ) → is_some o ≡ false → o ≡ None
is_none_of None h = refl
is_none_of (Some n) h = absurd (false≢true (sym h))

all-marked : (hs : List (Option ℕ)) (ps : List Part) → are_marked hs ps ≡ true
    → AllByRecursion (λ p. IsMarked hs p.kind) ps
all-marked hs [] h = tt
all-marked hs (p ∷ ps) h = let b = both (is_marked hs p.kind) (are_marked hs ps) h in (b.0, all-marked hs ps b.1)

marked-all : (hs : List (Option ℕ)) (ps : List Part) → AllByRecursion (λ p. IsMarked hs p.kind) ps
    → are_marked hs ps ≡ true
marked-all hs [] h = refl
marked-all hs (p ∷ ps) h = both_of (is_marked hs p.kind) (are_marked hs ps) h.0 (marked-all hs ps h.1)

-- where a part has no number, not all have
pub unmarked : (hs : List (Option ℕ)) (ms : List Member) (i : ℕ) (m : Member) → i < length ms → m ≡ get_or ms i m
    → is_marked hs m.kind.place ≡ false
    → are_marked hs (map part_of_member ms) ≡ false
unmarked hs [] i m h is absent = absurd (omega arith)
unmarked hs (n ∷ ms) zero m h is absent =
    let first : is_marked hs n.kind.place ≡ false = ap (λ (k : Member). is_marked hs k.kind.place) (sym is) ∙ absent in
    rw first refl
unmarked hs (n ∷ ms) (suc i) m h is absent =
    let later : are_marked hs (map part_of_member ms) ≡ false = unmarked hs ms i m (omega arith) is absent in
    rw later (and-false (is_marked hs n.kind.place))
  where
    and-false : (b : Bool) → b && false ≡ false
    and-false true = refl
    and-false false = refl

pub structure-met : (kinds : List KindView) (hs : List (Option ℕ)) (f : KindView) (parts : List Part) (r : Bool)
    → f ≡ xdr.structure parts → r ≡ are_marked hs parts
    → IsTrue r ↔ Asks kinds (IsMarked hs) f
structure-met kinds hs f parts r is e = (
  λ h. subst (Asks kinds (IsMarked hs)) (sym is) (all-marked hs parts (sym e ∙ h)),
  λ a. e ∙ marked-all hs parts (subst (Asks kinds (IsMarked hs)) is a),
)

rest : (b : Branch) (arms : List Branch) (a : Branch) (k : ℕ) → get_or arms k a ≡ a → get_or (b ∷ arms) (k + 1) a ≡ a
rest b arms a k e = rw add-one e

some-arm : (hs : List (Option ℕ)) (arms : List Branch) → some_marked hs arms ≡ true
    → (a : Branch) × Contains arms a × IsMarked hs a.part.kind
some-arm hs [] h = absurd (false≢true h)
some-arm hs (b ∷ arms) h =
    elim (one_of (is_marked hs b.part.kind) (some_marked hs arms) h) [
      | inl here ↦ (b, (0, omega arith, refl), here)
      | inr there ↦ let found = some-arm hs arms there in
          (found.0, (found.1.0 + 1, omega (arith, found.1.1), rest b arms found.0 found.1.0 found.1.2), found.2)
    ]

arm-some : (hs : List (Option ℕ)) (arms : List Branch) (a : Branch) (k : ℕ) → k < length arms → get_or arms k a ≡ a
    → IsMarked hs a.part.kind → some_marked hs arms ≡ true
arm-some hs [] a k h is m = absurd (omega arith)
arm-some hs (b ∷ arms) a zero h is m = let marked : is_marked hs b.part.kind ≡ true =
    ap (λ (z : Branch). is_marked hs z.part.kind) is ∙ m in rw marked refl
arm-some hs (b ∷ arms) a (suc k) h is m = let later : some_marked hs arms ≡ true =
    arm-some hs arms a k (omega arith) is m in or_later (is_marked hs b.part.kind) (some_marked hs arms) later

pub arm-met : (kinds : List KindView) (hs : List (Option ℕ)) (f : KindView) (tag : ℕ) (arms : List Branch)
    (other : Option Part) → f ≡ xdr.choice tag arms other
    → some_marked hs arms ≡ true → Asks kinds (IsMarked hs) f
arm-met kinds hs f tag arms other is h =
    let found = some-arm hs arms h in
    subst (Asks kinds (IsMarked hs)) (sym is) (found.0.part, inl (found.0, found.1, refl), found.2)

abbrev pub OtherMet : List KindView → List (Option ℕ) → ℕ → List Branch → Option Part → Type 0
OtherMet kinds hs tag arms other = (part : Part) × (other ≡ Some part) × HasFreeTag (kind_at kinds tag) arms
    × IsMarked hs part.kind

other-from : (kinds : List KindView) (hs : List (Option ℕ)) (tag : ℕ) (arms : List Branch) (other : Option Part)
    (r : Bool)
    → some_marked hs arms ≡ false → (IsTrue r ↔ OtherMet kinds hs tag arms other)
    → Asks kinds (IsMarked hs) (xdr.choice tag arms other) → IsTrue r
other-from kinds hs tag arms other r none by (part, reachable, marked) =
    elim reachable [
      | inl arm ↦ absurd (false≢true (sym none
          ∙ arm-some hs arms arm.0 arm.1.0 arm.1.1 arm.1.2
          (subst (λ (z : Part). IsMarked hs z.kind) (sym arm.2) marked)))
      | inr o ↦ by.1 (part, o.0, o.1, marked)
    ]

pub other-met : (kinds : List KindView) (hs : List (Option ℕ)) (f : KindView) (tag : ℕ) (arms : List Branch)
    (other : Option Part) (r : Bool) → f ≡ xdr.choice tag arms other
    → some_marked hs arms ≡ false → (IsTrue r ↔ OtherMet kinds hs tag arms other)
    → IsTrue r ↔ Asks kinds (IsMarked hs) f
other-met kinds hs f tag arms other r is none by = (
  λ h. let m = by.0 h in subst (Asks kinds (IsMarked hs)) (sym is) (m.0, inr (m.1, m.2), m.3),
  λ a. other-from kinds hs tag arms other r none by (subst (Asks kinds (IsMarked hs)) is a),
)

some-part-is : (p q : Part) → Some p ≡ Some q → p ≡ q
some-part-is p q e = cc

-- a default is met where it can be reached and its part has a number
reached-met : (kinds : List KindView) (hs : List (Option ℕ)) (tag : ℕ) (arms : List Branch) (other : Option Part)
    (reached : Bool) → IsReached kinds (xdr.choice tag arms other) reached
    → IsTrue (reached && some_optional (λ (p : Part). is_marked hs p.kind) other) ↔ OtherMet kinds hs tag arms other
reached-met kinds hs tag arms None reached by = (
  λ h. absurd (false≢true (both reached false h).1),
  λ m. absurd (none-some m.0 m.1),
)
reached-met kinds hs tag arms (Some p) reached by = (
  λ h. let b = both reached (is_marked hs p.kind) h in (p, refl, by.0 b.0, b.1),
  λ m. both_of reached (is_marked hs p.kind) (by.1 m.2)
      (ap (λ (q : Part). is_marked hs q.kind) (some-part-is p m.0 m.1) ∙ m.3),
)

pub default-met : (kinds : List KindView) (hs : List (Option ℕ)) (f : KindView) (tag : ℕ) (arms : List Branch)
    (other : Option Part) (reached r : Bool)
    → f ≡ xdr.choice tag arms other → some_marked hs arms ≡ false → IsReached kinds f reached
    → r ≡ reached && some_optional (λ (p : Part). is_marked hs p.kind) other → IsTrue r ↔ Asks kinds (IsMarked hs) f
default-met kinds hs f tag arms other reached r is none by e =
    let free = subst (λ (g : KindView). IsReached kinds g reached) is by in
    let met = reached-met kinds hs tag arms other reached free in
    other-met kinds hs f tag arms other r is none (λ h. met.0 (sym e ∙ h), λ m. e ∙ met.1 m)

pub kind-read : (ks : List Kind) (i : ℕ) (k : Kind) → i < length ks → k ≡ get_or ks i k
    → kind_at (map kind_view ks) i ≡ kind_view k
kind-read ks i k h e = get_or-map kind_view ks i k xdr.unknown h ∙ ap kind_view (sym e)

pub none-read : (hs : List (Option ℕ)) (i : ℕ) (o : Option ℕ) → i < length hs → o ≡ get_or hs i o → is_some o ≡ false
    → height_in hs i ≡ None
none-read hs i o h e n = sym (get_or_read hs i o h e None) ∙ is_none_of o n

pub some-read : (hs : List (Option ℕ)) (i : ℕ) (o : Option ℕ) → i < length hs → o ≡ get_or hs i o → is_some o ≡ true
    → IsMarked hs i
some-read hs i o h e n = ap is_some (sym (get_or_read hs i o h e None)) ∙ n

no-height-in : (n place : ℕ) → height_in (replicate n None) place ≡ None
no-height-in zero place = refl
no-height-in (suc n) zero = refl
no-height-in (suc n) (suc place) = no-height-in n place

all-missing : (n : ℕ) → missing (replicate n None) ≡ n
all-missing zero = refl
all-missing (suc n) = rw (all-missing n) (omega arith)

-- the beginning: no place has a number
pub fresh : (kinds : List KindView) (hs : List (Option ℕ)) → hs ≡ replicate (length kinds) None → AreHeights kinds hs 0
fresh kinds hs e = subst (λ (z : List (Option ℕ)). AreHeights kinds z 0) (sym e) record {
  lengths = length-replicate (length kinds) None;
  proper = λ place n is. absurd (none-some n (sym (no-height-in (length kinds) place) ∙ is));
  below = λ place n is. absurd (none-some n (sym (no-height-in (length kinds) place) ∙ is));
  left = rw (all-missing (length kinds)) (omega arith);
}
