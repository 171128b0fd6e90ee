-- Names of the arguments and results of procedures.
use Rattle.std.specs.Prelude.{ℕ, ◌<◌, ◌^◌, List, ◌++◌, ⊤, codes, decimal}
use Rattle.oncrpc_names.specs.declared.reading.Part.{Part}
use Rattle.oncrpc_names.specs.declared.reading.Part.TheVariants as part
use Rattle.oncrpc_names.specs.declared.reading.PartName.{PartName}

-- a decimal number, or the word result
abbrev pub part_text : Part → List ℕ
part_text (part.Argument k) = decimal k
part_text part.Result = codes "result"

-- the numbers of the program, the version and the procedure, and the part, with dots between them
-- (RFC 5531 section 12.3)
abbrev pub name_text : PartName → List ℕ
name_text n =
    decimal n.program ++ codes "."
    ++ decimal n.version ++ codes "."
    ++ decimal n.procedure ++ codes "."
    ++ part_text n.part

-- an argument's number is unsigned
abbrev pub IsPart : Part → Type 0
IsPart (part.Argument k) = k < 2 ^ 32
IsPart part.Result = ⊤

-- the numbers are unsigned (RFC 5531 section 12.3)
pub record IsPartName (n : PartName) : Type 0 where
  pub program : n.program < 2 ^ 32
  pub version : n.version < 2 ^ 32
  pub procedure : n.procedure < 2 ^ 32
  pub part : IsPart n.part
