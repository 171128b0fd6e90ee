-- Heights that are kept in a list: each round gives a place the next number where what it asks is there.
use Rattle.std.proofs.Common.{◌≡◌, ℕ, zero, suc, ◌+◌, ◌<◌, ◌≤◌, List, [], ◌∷◌, length, Option, Some, None, Bool, true}
use Rattle.std.proofs.Common.{false, eqb, eqb-true, ltb, ltb-true, ltb-false, is_some, refl, ap, sym, ◌∙◌, subst, arith}
use Rattle.std.proofs.Common.{◌⊎◌, inl, inr}
use Rattle.std.proofs.Math.ListN.{set, length-set}
use Rattle.std.specs.List.{AllByRecursion}
use Rattle.std.proofs.lemmas.Bool.{eqb-false, false≢true}
use Rattle.std.proofs.lemmas.List.{get_or-set_same, get_or-set_other, get_or_past}
use Rattle.std.proofs.lemmas.Option.{none-some}
use Rattle.xdr_types.specs.Kinds as xdr
use Rattle.xdr_types.specs.Kinds.{KindView, Part, Branch, kind_at}
use Rattle.xdr_types.specs.Private.Rounds.{height_in, IsMarked, AreBelow, IsClosed, missing, AreHeights}
use Rattle.xdr_types.specs.Sound.{Heighting, IsBelow, Asks, IsProper, HasHeight}

pub some-is : (m n : ℕ) → Some m ≡ Some n → m ≡ n
some-is m n e = cc

tested : (a b : ℕ) (r : Bool) → ltb a b ≡ r → (a < b) ⊎ (b ≤ a)
tested a b true e = inl (ltb-true a b e)
tested a b false e = inr (ltb-false a b e)

below_or_not : (a b : ℕ) → (a < b) ⊎ (b ≤ a)
below_or_not a b = tested a b (ltb a b) refl

all-mono : (P Q : Part → Type 0) → ((p : Part) → P p → Q p) → (ps : List Part) → AllByRecursion P ps
    → AllByRecursion Q ps
all-mono P Q f [] h = tt
all-mono P Q f (p ∷ ps) h = (f p h.0, all-mono P Q f ps h.1)

pub asks-mono : (kinds : List KindView) (P Q : ℕ → Type 0) → ((q : ℕ) → P q → Q q) → (f : KindView) → Asks kinds P f
    → Asks kinds Q f
asks-mono kinds P Q m (xdr.fixed item size) h = m item h
asks-mono kinds P Q m (xdr.structure parts) h = all-mono (λ p. P p.kind) (λ p. Q p.kind) (λ p. m p.kind) parts h
asks-mono kinds P Q m (xdr.choice tag arms other) h = (h.0, h.1, m h.0.kind h.2)
asks-mono kinds P Q m xdr.unknown h = h
asks-mono kinds P Q m xdr.int h = tt
asks-mono kinds P Q m xdr.unsigned h = tt
asks-mono kinds P Q m xdr.hyper h = tt
asks-mono kinds P Q m xdr.unsigned_hyper h = tt
asks-mono kinds P Q m xdr.boolean h = tt
asks-mono kinds P Q m (xdr.numbered cs) h = tt
asks-mono kinds P Q m (xdr.opaque size) h = tt
asks-mono kinds P Q m (xdr.opaque_up_to max) h = tt
asks-mono kinds P Q m (xdr.text max) h = tt
asks-mono kinds P Q m (xdr.up_to item max) h = tt
asks-mono kinds P Q m (xdr.maybe item) h = tt
asks-mono kinds P Q m xdr.nothing h = tt

-- a place that is asked of stands in the list
pub known : (kinds : List KindView) (place : ℕ) (P : ℕ → Type 0) → Asks kinds P (kind_at kinds place)
    → place < length kinds
known kinds place P h =
    elim (below_or_not place (length kinds)) [
      | inl below ↦ below
      | inr past ↦ absurd (subst (λ f. Asks kinds P f) (get_or_past kinds place xdr.unknown past) h)
    ]

decide : (o : Option ℕ) → ((n : ℕ) × (o ≡ Some n)) ⊎ (o ≡ None)
decide None = inr refl
decide (Some n) = inl (n, refl)

marked-by : (hs : List (Option ℕ)) (place n : ℕ) → height_in hs place ≡ Some n → IsMarked hs place
marked-by hs place n e = ap is_some e

number_of_some : (o : Option ℕ) → is_some o ≡ true → (n : ℕ) × (o ≡ Some n)
number_of_some None h = absurd (false≢true h)
number_of_some (Some n) h = (n, refl)

pub number : (hs : List (Option ℕ)) (place : ℕ) → IsMarked hs place → (n : ℕ) × (height_in hs place ≡ Some n)
number hs place h = number_of_some (height_in hs place) h

-- a place that some proper heighting gives a number below bound is marked in a closed list
marked_below : (kinds : List KindView) (hs : List (Option ℕ)) → IsClosed kinds hs → (height : Heighting)
    → IsProper kinds height
    → (bound place n : ℕ) → n < bound → height place ≡ Some n → IsMarked hs place
marked_below kinds hs closed height proper zero place n b e = absurd (omega arith)
marked_below kinds hs closed height proper (suc bound) place n b e =
    elim (decide (height_in hs place)) [
      | inl found ↦ marked-by hs place found.0 found.1
      | inr none ↦ absurd (closed place (known kinds place (IsBelow height n) (proper place n e)) none
          (asks-mono kinds (IsBelow height n) (IsMarked hs)
          (λ q below. marked_below kinds hs closed height proper bound q below.0 (omega (arith, below.2)) below.1)
          (kind_at kinds place) (proper place n e)))
    ]

-- a place without a number in a closed list has no height
pub no-height : (kinds : List KindView) (hs : List (Option ℕ)) → IsClosed kinds hs → (place : ℕ)
    → height_in hs place ≡ None → HasHeight kinds place → ⊥
no-height kinds hs closed place none h =
    let found = number hs place (marked_below kinds hs closed h.0 h.2 (h.1 + 1) place h.1 (omega arith) h.3) in
    none-some found.0 (sym none ∙ found.1)

pub has-height : (kinds : List KindView) (hs : List (Option ℕ)) → IsProper kinds (height_in hs) → (place : ℕ)
    → IsMarked hs place → HasHeight kinds place
has-height kinds hs proper place marked = let found = number hs place marked in (height_in hs, found.0, proper, found.1)

-- the numbers after one more
abbrev one_more : List (Option ℕ) → ℕ → ℕ → List (Option ℕ)
one_more hs place next = set hs place (Some next)

pub same_or_not : (a b : ℕ) (r : Bool) → eqb a b ≡ r → (a ≡ b) ⊎ (a ≡ b → ⊥)
same_or_not a b true e = inl (eqb-true a b e)
same_or_not a b false e = inr (λ h. eqb-false a b e h)

retained : (hs : List (Option ℕ)) (place next q m : ℕ) → height_in hs place ≡ None → height_in hs q ≡ Some m
    → height_in (one_more hs place next) q ≡ Some m
retained hs place next q m none e =
    elim (same_or_not q place (eqb q place) refl) [
      | inl same ↦ absurd (none-some m (sym none ∙ ap (height_in hs) (sym same) ∙ e))
      | inr other ↦ get_or-set_other hs place q (Some next) None other ∙ e
    ]

new : (hs : List (Option ℕ)) (place next q m : ℕ) → place < length hs → height_in (one_more hs place next) q ≡ Some m
    → ((q ≡ place) × (m ≡ next)) ⊎ (height_in hs q ≡ Some m)
new hs place next q m within e =
    elim (same_or_not q place (eqb q place) refl) [
      | inl same ↦ let is : height_in (one_more hs place next) q ≡ Some next =
          ap (height_in (one_more hs place next)) same
          ∙ get_or-set_same hs place (Some next) None within in inl (same, some-is m next (sym e ∙ is))
      | inr other ↦ inr (sym (get_or-set_other hs place q (Some next) None other) ∙ e)
    ]

pub one_more-below : (hs : List (Option ℕ)) (place next : ℕ) → place < length hs → AreBelow hs next
    → AreBelow (one_more hs place next) (next + 1)
one_more-below hs place next within below q m e =
    elim (new hs place next q m within e) [
      | inl here ↦ omega (arith, here.1)
      | inr there ↦ let b : m < next = below q m there in omega arith
    ]

pub one_more-proper : (kinds : List KindView) (hs : List (Option ℕ)) (place next : ℕ) → place < length hs
    → IsProper kinds (height_in hs) → AreBelow hs next → height_in hs place ≡ None
    → Asks kinds (IsMarked hs) (kind_at kinds place) → IsProper kinds (height_in (one_more hs place next))
one_more-proper kinds hs place next within proper below none asks q m e =
    elim (new hs place next q m within e) [
      | inl here ↦ subst (λ z. Asks kinds (IsBelow (height_in (one_more hs place next)) z) (kind_at kinds q))
          (sym here.1)
          (subst (λ z. Asks kinds (IsBelow (height_in (one_more hs place next)) next) (kind_at kinds z)) (sym here.0)
          (asks-mono kinds (IsMarked hs) (IsBelow (height_in (one_more hs place next)) next)
          (λ p marked. let found = number hs p marked in
          (found.0, retained hs place next p found.0 none found.1, below p found.0 found.1))
          (kind_at kinds place) asks))
      | inr there ↦ asks-mono kinds (IsBelow (height_in hs) m) (IsBelow (height_in (one_more hs place next)) m)
          (λ p b. (b.0, retained hs place next p b.0 none b.1, b.2)) (kind_at kinds q) (proper q m there)
    ]

-- one number fewer is missing
missing-set : (hs : List (Option ℕ)) (place n : ℕ) → place < length hs → height_in hs place ≡ None
    → missing (set hs place (Some n)) + 1 ≡ missing hs
missing-set [] place n within none = absurd (omega arith)
missing-set (None ∷ hs) zero n within none = refl
missing-set (Some m ∷ hs) zero n within none = absurd (none-some m (sym none))
missing-set (None ∷ hs) (suc place) n within none = ap (λ k. k + 1) (missing-set hs place n (omega arith) none)
missing-set (Some m ∷ hs) (suc place) n within none = missing-set hs place n (omega arith) none

pub step : (kinds : List KindView) (hs : List (Option ℕ)) (next place : ℕ) → AreHeights kinds hs next
    → place < length kinds → height_in hs place ≡ None
    → Asks kinds (IsMarked hs) (kind_at kinds place) → AreHeights kinds (one_more hs place next) (next + 1)
step kinds hs next place are within none asks =
    let inside : place < length hs = omega (arith, are.lengths) in
    record {
      lengths = length-set hs place (Some next) ∙ are.lengths;
      proper = one_more-proper kinds hs place next inside are.proper are.below none asks;
      below = one_more-below hs place next inside are.below;
      left = omega (arith, are.left, missing-set hs place next inside none);
    }
