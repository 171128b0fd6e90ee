-- How high kinds stand over their parts: a measure for what goes into structures and fixed lists without reading a
-- byte.
use Rattle.std.specs.Prelude.{ℕ, zero, suc, ◌+◌, ◌<◌, List, [], ◌∷◌, ⊤, length, max}
use Rattle.std.specs.List.{AllByRecursion}
use Rattle.xdr_types.specs.Kinds as xdr
use Rattle.xdr_types.specs.Kinds.{KindView, Part, kind_at}

-- the height of the highest part
abbrev pub highest : (ℕ → ℕ) → List Part → ℕ
highest height [] = 0
highest height (p ∷ ps) = max (height p.kind) (highest height ps)

-- a structure and a fixed list are one higher than their highest part
abbrev pub over : (ℕ → ℕ) → KindView → ℕ
over height (xdr.structure ps) = highest height ps + 1
over height (xdr.fixed item size) = height item + 1
over height _ = 0

-- the height of a place, as far as n levels of parts show it
abbrev pub height_within : List KindView → ℕ → ℕ → ℕ
height_within kinds zero place = 0
height_within kinds (suc n) place = over (height_within kinds n) (kind_at kinds place)

-- the height of a place: as many levels as there are kinds show all of it
abbrev pub height : List KindView → ℕ → ℕ
height kinds place = height_within kinds (length kinds) place

-- all parts of a structure or a fixed list stand below top
abbrev pub IsHigher : (ℕ → ℕ) → KindView → ℕ → Type 0
IsHigher height (xdr.structure ps) top = AllByRecursion (λ (p : Part). height p.kind < top) ps
IsHigher height (xdr.fixed item size) top = height item < top
IsHigher height _ top = ⊤

-- each structure and each fixed list is higher than all its parts
abbrev pub AreHigher : List KindView → Type 0
AreHigher kinds = (place : ℕ) → place < length kinds
    → IsHigher (height kinds) (kind_at kinds place) (height kinds place)
