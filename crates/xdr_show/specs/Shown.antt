-- What is printed for a value.
use Rattle.std.specs.Prelude.{ℕ, List, flat_map}
use Rattle.xdr_types.specs.Kinds.{KindView}
use Rattle.xdr_types.specs.Tree.{Tree}
use Rattle.xdr_show.specs.Seen.{seen}
use Rattle.xdr_show.specs.Line.{line}

-- the lines of the parts of a value of the kind, in the layout's order: a node before those inside it (RFC 4506 section
-- 4)
abbrev pub show_text : List KindView → (kind : ℕ) → Tree → List ℕ
show_text kinds kind v = flat_map (line kinds) (seen kinds kind v)
