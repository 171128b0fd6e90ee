-- Which schemas are sound: every kind has a height.
use Rattle.std.specs.Prelude.{◌≡◌, ℕ, ◌<◌, ℤ, List, ◌⊎◌, ⊤, length, Option, Some, Bool, false, ◌||◌, [], ◌∷◌, IsTrue}
use Rattle.std.specs.List.{AllByRecursion, Contains}
use Rattle.xdr_types.specs.Kinds as xdr
use Rattle.xdr_types.specs.Kinds.{KindView, Part, Branch, kind_at}
use Rattle.xdr_types.specs.Fits.{is_tag_of, is_listed}

-- a heighting gives numbers to some places
abbrev pub Heighting : Type 0
Heighting = ℕ → Option ℕ

-- the place has a number below n
abbrev pub IsBelow : Heighting → ℕ → ℕ → Type 0
IsBelow height n place = (m : ℕ) × (height place ≡ Some m) × (m < n)

-- some arm lists the discriminant (RFC 4506 section 4.15)
abbrev pub has_arm : List Branch → ℤ → Bool
has_arm [] z = false
has_arm (a ∷ arms) z = is_listed a.cases z || has_arm arms z

-- some legal discriminant has no arm (RFC 4506 section 4.15)
abbrev pub HasFreeTag : KindView → List Branch → Type 0
HasFreeTag tag arms = (z : ℤ) × IsTrue (is_tag_of tag z) × (has_arm arms z ≡ false)

-- an arm's part is reachable; the default is where some legal discriminant has no arm (RFC 4506 section 4.15)
abbrev pub IsReachable : List KindView → ℕ → List Branch → Option Part → Part → Type 0
IsReachable kinds tag arms other part =
    ((a : Branch) × Contains arms a × (a.part ≡ part)) ⊎ ((other ≡ Some part) × HasFreeTag (kind_at kinds tag) arms)

-- what a kind asks of its parts: of all parts of a structure or a fixed array, of one reachable part of a union, else
-- nothing (RFC 4506 sections 4.12 to 4.15, 4.19)
abbrev pub Asks : List KindView → (ℕ → Type 0) → KindView → Type 0
Asks kinds P (xdr.fixed item size) = P item
Asks kinds P (xdr.structure parts) = AllByRecursion (λ p. P p.kind) parts
Asks kinds P (xdr.choice tag arms other) = (part : Part) × IsReachable kinds tag arms other part × P part.kind
Asks kinds P xdr.unknown = ⊥
Asks kinds P _ = ⊤

-- a heighting is proper where each kind with a number has what it asks among the kinds with smaller numbers
abbrev pub IsProper : List KindView → Heighting → Type 0
IsProper kinds height = (place n : ℕ) → height place ≡ Some n → Asks kinds (IsBelow height n) (kind_at kinds place)

-- a place has a height where some proper heighting gives it a number
abbrev pub HasHeight : List KindView → ℕ → Type 0
HasHeight kinds place = (height : Heighting) × (n : ℕ) × IsProper kinds height × (height place ≡ Some n)

-- a schema is sound where each place has a height
abbrev pub IsSound : List KindView → Type 0
IsSound kinds = (place : ℕ) → place < length kinds → HasHeight kinds place

-- the lowest place without a height
pub record IsLowestWithout (kinds : List KindView) (place : ℕ) : Type 0 where
  pub within : place < length kinds
  pub none : HasHeight kinds place → ⊥
  pub lower : (q : ℕ) → q < place → HasHeight kinds q
