-- What is retained while the counts of bytes are found.
use Rattle.std.specs.Prelude.{◌≡◌, ℕ, ◌+◌, ◌^◌, ◌<◌, ◌≤◌, List, [], ◌∷◌, ◌⊎◌, length, Option, Some, None, Bool, true}
use Rattle.std.specs.Prelude.{false, ◌&&◌, slice_index_or, unwrap_or}
use Rattle.xdr_types.specs.Kinds.{KindView}
use Rattle.xdr_types.specs.Height.{AreHigher}
use Rattle.xdr_types.specs.Laws.{EachKindHasAValue, EachPartIsKnown}
use Rattle.xdr_bounds.specs.Bounds.{IsReached, IsGreatest, IsGreatestAnswer}
use Rattle.xdr_bounds.specs.Private.Amounts.{Amounts, amount_at}
use Rattle.xdr_bounds.specs.Private.Shapes.{AreShapes, least_over, needs}
use Rattle.xdr_bounds.specs.declared.greatest.Greatest.{Greatest}
use Rattle.xdr_bounds.specs.declared.greatest.Greatest.TheVariants as greatest
use Rattle.xdr_bounds.specs.declared.range.Range.{Range}
use Rattle.xdr_bounds.specs.declared.shape.Shape.{Shape}

-- the amounts as numbers: 2^64 where there is none
abbrev pub low : List (Option ℕ) → ℕ → ℕ
low amounts place = unwrap_or (amount_at amounts place) (2 ^ 64)

-- each amount is the count of the bytes of some value
abbrev pub AreReached : List KindView → List (Option ℕ) → Type 0
AreReached kinds amounts = (place n : ℕ) → amount_at amounts place ≡ Some n → IsReached kinds place n

-- new amounts for old ones: as many, and reached where the old ones are
pub record Keeps (shapes : List Shape) (old new : List (Option ℕ)) : Type 0 where
  pub lengths : length new ≡ length old
  pub reached : (kinds : List KindView) → AreShapes kinds shapes → AreReached kinds old → AreReached kinds new

-- the amount at a place is not above what its parts have
abbrev pub IsLowAt : List Shape → List (Option ℕ) → ℕ → Type 0
IsLowAt shapes amounts place = (s : Shape) → place < length shapes → s ≡ slice_index_or shapes place s
    → low amounts place ≤ least_over (low amounts) s

-- the same at each place
abbrev pub AreLow : List Shape → List (Option ℕ) → Type 0
AreLow shapes amounts = (place : ℕ) → place < length shapes → IsLowAt shapes amounts place

-- the sum of all amounts, which falls with each of them
abbrev pub weight : List (Option ℕ) → ℕ
weight [] = 0
weight (a ∷ amounts) = unwrap_or a (2 ^ 64) + weight amounts

-- the place is done
abbrev pub is_done : List Bool → ℕ → Bool
is_done done place = slice_index_or done place false

-- all the places are done
abbrev pub all_done : List Bool → List ℕ → Bool
all_done done [] = true
all_done done (q ∷ qs) = is_done done q && all_done done qs

-- how many places are not done
abbrev pub undone : List Bool → ℕ
undone [] = 0
undone (true ∷ done) = undone done
undone (false ∷ done) = undone done + 1

-- what is known of a place: its greatest count once it is done, and no amount before
pub record IsKnown (kinds : List KindView) (place : ℕ) (amount : Option ℕ) (is_done : Bool) : Type 0 where
  pub after : is_done ≡ true → (n : ℕ) × Amounts amount n × IsGreatest kinds place n
  pub before : is_done ≡ false → amount ≡ None

-- the same of each place
abbrev pub AreKnown : List KindView → List (Option ℕ) → List Bool → Type 0
AreKnown kinds amounts done =
    (place : ℕ) → IsKnown kinds place (amount_at amounts place) (is_done done place)

-- the place is done, or it needs one that is not
abbrev pub IsSettledAt : List Shape → List Bool → ℕ → Type 0
IsSettledAt shapes done place = (s : Shape) → place < length shapes → s ≡ slice_index_or shapes place s
    → (is_done done place ≡ true) ⊎ (all_done done (needs s) ≡ false)

-- the same at each place
abbrev pub AreSettled : List Shape → List Bool → Type 0
AreSettled shapes done = (place : ℕ) → place < length shapes → IsSettledAt shapes done place

-- what is known of the kinds of every schema
pub record AreSound (kinds : List KindView) : Type 0 where
  pub valued : EachKindHasAValue kinds
  pub known : EachPartIsKnown kinds
  pub higher : AreHigher kinds

-- new amounts and places that are done for old ones: as many, and known where the old ones are
pub record KeepsKnown (shapes : List Shape) (old : List (Option ℕ)) (was : List Bool) (new : List (Option ℕ))
    (now : List Bool) : Type 0 where
  pub amounts : length new ≡ length old
  pub done : length now ≡ length was
  pub known : (kinds : List KindView) → AreShapes kinds shapes → EachKindHasAValue kinds → AreKnown kinds old was
      → AreKnown kinds new now

-- what is told of a place in the end
abbrev pub told : Option ℕ → Bool → Greatest
told amount false = greatest.Unbounded
told None true = greatest.MoreThanU64
told (Some n) true = greatest.Bytes n

-- the greatest counts of all places, for all kinds that have the shapes
pub record AreGreatest (shapes : List Shape) (counts : List Greatest) : Type 0 where
  pub lengths : length counts ≡ length shapes
  pub each : (kinds : List KindView) (place : ℕ) (g : Greatest) → AreSound kinds → AreShapes kinds shapes
      → place < length counts → g ≡ slice_index_or counts place g → IsGreatestAnswer kinds place g

-- both counts of each place, beside each other
pub record AreJoined (least : List (Option ℕ)) (counts : List Greatest) (ranges : List Range) : Type 0 where
  pub lengths : length ranges ≡ length least
  pub each : (place : ℕ) (r : Range) → place < length ranges → r ≡ slice_index_or ranges place r
      → (r.least ≡ amount_at least place) × (r.greatest ≡ slice_index_or counts place r.greatest)
