-- How many levels the values of a kind have at most.
use Rattle.std.specs.Prelude.{ℕ, ◌<◌, ◌≤◌, List, length}
use Rattle.xdr_types.specs.Kinds.{KindView}
use Rattle.xdr_types.specs.Tree.{Tree, depth}
use Rattle.xdr_types.specs.Fits.{Fits}

-- no value of the kind at the place has more levels; 1 to 16 of them (RFC 4506 sections 4.1 to 4.19)
pub record IsMostLevels (kinds : List KindView) (place most : ℕ) : Type 0 where
  pub within : place < length kinds
  pub low : 0 < most
  pub shallow : most ≤ 16
  pub levels : (t : Tree) → Fits kinds place t → depth t ≤ most
