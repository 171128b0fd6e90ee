-- What a name names in what a text declares.
use Rattle.std.specs.Prelude.{◌≡◌, ◌⊎◌, ℕ, zero, suc, List, Option, None, Some, slice_get, option_and_then}
use Rattle.xdr_types.specs.Named.{place_named}
use Rattle.xdr_lang.specs.Declarations.{Declared, Procedure, procedure_of_program}
use Rattle.oncrpc_names.specs.declared.reading.Part.{Part}
use Rattle.oncrpc_names.specs.declared.reading.Part.TheVariants as part
use Rattle.oncrpc_names.specs.declared.reading.PartName.{PartName}
use Rattle.oncrpc_names.specs.Names.{IsPartName, name_text}

-- the place of the kind of an argument, counted from 1, or of the result where it is not void
abbrev pub place_of_part : Procedure → Part → Option ℕ
place_of_part p (part.Argument zero) = None
place_of_part p (part.Argument (suc k)) = slice_get p.arguments k
place_of_part p part.Result = p.result

-- the same in the procedure with the numbers of the name (RFC 5531 section 12.3)
abbrev pub part_named : Declared → PartName → Option ℕ
part_named d n = option_and_then (λ p. place_of_part p n.part)
    (procedure_of_program n.program n.version n.procedure d.programs)

-- The text is the name of an argument or a result that is there, whose kind has this place.
pub record NamesPart (text : List ℕ) (d : Declared) (place : ℕ) : Type 0 where
  pub name : PartName
  pub unsigned : IsPartName name
  pub spelled : text ≡ name_text name
  pub found : part_named d name ≡ Some place

-- The text is a name of the schema, or else of an argument or a result.
abbrev pub Names : List ℕ → Declared → ℕ → Type 0
Names text d place =
    (place_named d.schema.names text ≡ Some place)
    ⊎ ((place_named d.schema.names text ≡ None) × NamesPart text d place)
