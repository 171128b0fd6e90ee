-- What stands at a place, and what stands behind the first ones.
use Rattle.std.proofs.Common.{◌≡◌, ℕ, zero, suc, ◌<◌, ◌≤◌, min, List, [], ◌∷◌, length, map, drop, Option, Some, None}
use Rattle.std.proofs.Common.{refl, sym, ap, ◌∙◌, arith}
use Rattle.std.proofs.lemmas.List.{drop_min, drop-map}
use Rattle.std.specs.Prelude.{MatchOption, slice_get, slice_index_or}
use Rattle.xdr_bounds.specs.declared.range.Range.{Range}

pub place_as : (xs : List Range) (i : ℕ) (o : Option Range)
    → MatchOption o (length xs ≤ i) (λ r. (i < length xs) × (r ≡ slice_index_or xs i r))
    → o ≡ slice_get xs i
place_as [] i None h = refl
place_as [] i (Some r) h = absurd (omega (arith, h.0))
place_as (x ∷ xs) zero None h = absurd (omega (arith, h))
place_as (x ∷ xs) zero (Some r) h = ap Some h.1
place_as (x ∷ xs) (suc i) None h = place_as xs i None (omega (arith, h))
place_as (x ∷ xs) (suc i) (Some r) h = place_as xs i (Some r) (omega (arith, h.0), h.1)

pub behind : {A B : Type 0} (f : A → B) (n : ℕ) (xs : List A)
    → map f (drop (min n (length xs)) xs) ≡ drop n (map f xs)
behind f n xs = ap (map f) (drop_min n xs) ∙ sym (drop-map f n xs)
