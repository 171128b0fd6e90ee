-- The first names of kinds, as the code keeps them.
use Rattle.std.specs.Prelude.{◌≡◌, ℕ, List, Option, None, option_map, slice_index_or}
use denote.Ref.{Bor}
use Rattle.xdr_types.specs.Kinds.{Part}
use Rattle.xdr_listing.specs.Words.{name_of_place}

-- At the place of each kind stands the first of its names, where it has one, and past the end none.
pub record AreFirst (names : List Part) (firsts : List (Option (Bor (List ℕ)))) : Type 0 where
  pub at : (place : ℕ)
      → option_map (λ (s : Bor (List ℕ)). s.now) (slice_index_or firsts place None) ≡ name_of_place names place
