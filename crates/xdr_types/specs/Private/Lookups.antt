-- Where a number is found first, among the members of an enumeration or the arms of a union, and the lists of entries
-- that say so.
use Rattle.std.specs.Prelude.{◌≡◌, ℕ, ◌≤◌, ◌<◌, ℤ, pos, ◌≤ℤ◌, List, [], ◌∷◌, length, Option, Some}
use Rattle.std.specs.Prelude.{None, if◌then◌else◌, slice_index_or, Vec, ⊤}
use Rattle.std.specs.List.{position_from}
use Rattle.std.specs.declared.alloc.Global.{Global}
use Rattle.std.specs.Ordering.{int_eq}
use Rattle.xdr_types.specs.Kinds as xdr
use Rattle.xdr_types.specs.Kinds.{KindView, Branch, Constant}
use Rattle.xdr_types.specs.Fits.{is_listed}

-- the index of the first member that has the number, in a list that starts at an index (RFC 4506 section 4.3)
abbrev pub member_from : ℕ → List Constant → ℤ → Option ℕ
member_from i constants z = position_from (λ (c : Constant). int_eq c.number z) i constants

-- the index of the first arm that lists the number, in a list that starts at an index (RFC 4506 section 4.15)
abbrev pub arm_from : ℕ → List Branch → ℤ → Option ℕ
arm_from i arms z = position_from (λ (a : Branch). is_listed a.cases z) i arms

-- the index of the first member or arm of a kind that a number picks
abbrev pub index_of : KindView → ℤ → Option ℕ
index_of (xdr.numbered constants) z = member_from 0 constants z
index_of (xdr.choice tag arms other) z = arm_from 0 arms z
index_of _ z = None

-- the number of the entry at an index
abbrev pub number_at : List (ℤ × ℕ) → ℕ → ℤ
number_at entries i = (slice_index_or entries i (pos 0, 0)).0

-- the numbers of entries stand in order
abbrev pub AreInOrder : List (ℤ × ℕ) → Type 0
AreInOrder entries = (i j : ℕ) → i ≤ j → j < length entries → number_at entries i ≤ℤ number_at entries j

-- what the first entry with a number has
unfoldable pub first_at : List (ℤ × ℕ) → ℤ → Option ℕ
first_at [] z = None
first_at (e ∷ entries) z = if int_eq e.0 z then Some e.1 else first_at entries z

-- the entries stand in order, and give the index of each number of the kind
pub record Finds (f : KindView) (entries : List (ℤ × ℕ)) : Type 0 where
  pub ordered : AreInOrder entries
  pub finds : (z : ℤ) → first_at entries z ≡ index_of f z

-- the same, where there are entries
abbrev pub MayFind : KindView → Option (Vec (ℤ × ℕ) Global) → Type 0
MayFind f None = ⊤
MayFind f (Some v) = Finds f v.items
