-- The numbers of enumerations and the cases of unions as sets, and which defaults can be reached.
use Rattle.std.specs.Prelude.{◌≡◌, ℕ, ◌<◌, ℤ, List, length, Bool, true, false, ⊤, IsTrue, ◌↔◌, ◌⊎◌, Some}
use Rattle.std.specs.Prelude.{slice_index_or}
use Rattle.std.specs.BTreeSet.{BTreeSet, contains, btree_set_len}
use Rattle.std.specs.Ordering.{int_cmp}
use Rattle.xdr_types.specs.Kinds as xdr
use Rattle.xdr_types.specs.Kinds.{KindView, kind_at}
use Rattle.xdr_types.specs.Fits.{is_numbered, is_tag_of}
use Rattle.xdr_types.specs.Sound.{HasFreeTag}

-- the set has exactly the numbers of an enumeration (RFC 4506 section 4.3)
abbrev pub HasNumbers : KindView → BTreeSet ℤ → Type 0
HasNumbers (xdr.numbered members) s = (z : ℤ) → contains int_cmp s z ≡ is_numbered members z
HasNumbers _ s = ⊤

-- the set at the place has the numbers of the enumeration there
abbrev pub IsFilled : List KindView → List (BTreeSet ℤ) → ℕ → Type 0
IsFilled kinds sets place =
    (s : BTreeSet ℤ) → place < length sets → s ≡ slice_index_or sets place s → HasNumbers (kind_at kinds place) s

-- each set has no number yet, or those of the enumeration at its place
abbrev pub AreNumbers : List KindView → List (BTreeSet ℤ) → Type 0
AreNumbers kinds sets =
    (place : ℕ) (s : BTreeSet ℤ) → place < length sets → s ≡ slice_index_or sets place s
    → (btree_set_len s ≡ 0) ⊎ HasNumbers (kind_at kinds place) s

-- some number of the first set is not in the second
abbrev pub HasNumberOutside : BTreeSet ℤ → BTreeSet ℤ → Type 0
HasNumberOutside numbers cases = (z : ℤ) × (contains int_cmp numbers z ≡ true) × (contains int_cmp cases z ≡ false)

-- some legal discriminant is not in the set (RFC 4506 section 4.15)
abbrev pub HasFreeNumber : KindView → BTreeSet ℤ → Type 0
HasFreeNumber tag cases = (z : ℤ) × IsTrue (is_tag_of tag z) × (contains int_cmp cases z ≡ false)

-- whether some legal discriminant of a union has no arm, so that its default can be reached (RFC 4506 section 4.15);
-- nothing of one without a default
abbrev pub IsReached : List KindView → KindView → Bool → Type 0
IsReached kinds (xdr.choice tag arms (Some p)) r = IsTrue r ↔ HasFreeTag (kind_at kinds tag) arms
IsReached kinds _ r = ⊤

-- the same for the kind at each place
pub record AreReached (kinds : List KindView) (reached : List Bool) : Type 0 where
  pub lengths : length reached ≡ length kinds
  pub each : (place : ℕ) (r : Bool) → place < length reached → r ≡ slice_index_or reached place r
      → IsReached kinds (kind_at kinds place) r
