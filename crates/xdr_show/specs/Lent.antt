-- The parts of a value that stands at the front of an input.
use Rattle.std.specs.Prelude.{◌≡◌, ℕ, List, ◌++◌, map}
use Rattle.xdr_types.specs.Kinds.{KindView}
use Rattle.xdr_types.specs.Tree.{Tree}
use Rattle.xdr_types.specs.Fits.{Fits}
use Rattle.xdr_types.specs.Spelling.{bytes_of}
use Rattle.xdr_types.specs.Layout.{entries}
use Rattle.xdr_parts.specs.Lent.{entry_of, AreLentFrom}
use Rattle.xdr_parts.specs.declared.part.Lent.{Lent}

-- The parts are the layout of a value of the kind whose encoding begins the input, and their bytes are lent from there
-- (RFC 4506 section 4).
pub record ArePartsOf (kinds : List KindView) (kind : ℕ) (v : Tree) (input : List ℕ) (ls : List Lent) : Type 0 where
  pub fits : Fits kinds kind v
  pub rest : List ℕ
  pub begins : input ≡ bytes_of kinds kind v ++ rest
  pub listed : map entry_of ls ≡ entries kinds kind v
  pub lent : AreLentFrom input ls
