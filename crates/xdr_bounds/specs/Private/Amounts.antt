-- Counts of bytes that are noted for places, as far as they are below 2^64.
use Rattle.std.specs.Prelude.{◌≡◌, ℕ, ◌+◌, ◌^◌, ◌≤◌, List, [], ◌∷◌, map, max, min, Option, None, MatchOption, ◌⊎◌}
use Rattle.std.specs.Prelude.{slice_index_or}
use Rattle.xdr_types.specs.declared.kind.KindId.{KindId}

-- an amount is a number where that is below 2^64, and else none
abbrev pub Amounts : Option ℕ → ℕ → Type 0
Amounts amount n = MatchOption amount (2 ^ 64 ≤ n) (λ m. m ≡ n)

-- the amount that is noted for a place
abbrev pub amount_at : List (Option ℕ) → ℕ → Option ℕ
amount_at amounts place = slice_index_or amounts place None

-- the amounts are those of the numbers that a function gives to places
abbrev pub Shows : List (Option ℕ) → (ℕ → ℕ) → Type 0
Shows amounts f = (place : ℕ) → Amounts (amount_at amounts place) (f place)

-- the places that are named
abbrev pub places_of : List KindId → List ℕ
places_of ids = map (λ (id : KindId). id.place) ids

-- the place is one of those
abbrev pub IsIn : ℕ → List ℕ → Type 0
IsIn q [] = ⊥
IsIn q (p ∷ ps) = (q ≡ p) ⊎ IsIn q ps

-- the sum over places
abbrev pub total : (ℕ → ℕ) → List ℕ → ℕ
total f [] = 0
total f (q ∷ qs) = f q + total f qs

-- the highest over places
abbrev pub highest : (ℕ → ℕ) → List ℕ → ℕ
highest f [] = 0
highest f (q ∷ qs) = max (f q) (highest f qs)

-- the lowest over places, 2^64 where there are none
abbrev pub lowest : (ℕ → ℕ) → List ℕ → ℕ
lowest f [] = 2 ^ 64
lowest f (q ∷ qs) = min (f q) (lowest f qs)
