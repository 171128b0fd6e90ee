-- Whether values fit and are so deep at most.
use Rattle.std.specs.Prelude.{ℕ, List, Bool, ◌&&◌, nat_le}
use Rattle.xdr_types.specs.Kinds.{KindView, Part}
use Rattle.xdr_types.specs.Tree.{Values, Tree, depth, depth_of}
use Rattle.xdr_types.specs.Fits.{fits, fit}

-- a tree is a value of the kind at the place, and at most so deep
abbrev pub fits_within : List KindView → ℕ → Tree → ℕ → Bool
fits_within kinds place t most = fits kinds place t && nat_le (depth t) most

-- there is one value for each part, and each is at most so deep
abbrev pub fit_within : List KindView → List Part → Values → ℕ → Bool
fit_within kinds ps vs most = fit kinds ps vs && nat_le (depth_of vs) most
