-- A front: the beginning of some value's bytes.
use Rattle.std.specs.Prelude.{ℕ, ◌≡◌, List, ◌++◌}
use Rattle.xdr_types.specs.Kinds.{KindView}
use Rattle.xdr_types.specs.Tree.{Tree}
use Rattle.xdr_types.specs.Fits.{Fits}
use Rattle.xdr_types.specs.Spelling.{bytes_of}

-- v is a value of the kind, and its bytes are q and then some more (RFC 4506 section 4)
abbrev pub BeginsWith : List KindView → (kind : ℕ) → (q : List ℕ) → Tree → Type 0
BeginsWith kinds kind q v = Fits kinds kind v × (more : List ℕ) × (bytes_of kinds kind v ≡ q ++ more)

-- some value of the kind begins with q; limits play no part (RFC 4506 section 4)
abbrev pub Front : List KindView → (kind : ℕ) → (q : List ℕ) → Type 0
Front kinds kind q = (v : Tree) × BeginsWith kinds kind q v
