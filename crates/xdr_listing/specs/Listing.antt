-- What is printed of what a text declares: a line for each name, and for each argument and result of a procedure.
use Rattle.std.specs.Prelude.{◌≡◌, ℕ, ◌+◌, List, [], ◌∷◌, ◌++◌, drop, flat_map, map, Option, Some, None}
use Rattle.std.specs.Prelude.{codes, decimal}
use Rattle.std.specs.Fmt.{signed_decimal}
use Rattle.xdr_types.specs.Kinds.{Part}
use Rattle.xdr_lang.specs.Declarations.{Declared, Constant, Procedure, Version, Program}
use Rattle.xdr_bounds.specs.Bounds.{AreRanges}
use Rattle.xdr_bounds.specs.declared.range.Range.{Range}
use Rattle.xdr_listing.specs.Words.{Types, kind_text, named_text}

-- ---- what a text declares by itself

-- its constants: those after TRUE and FALSE (RFC 4506 sections 4.4, 4.17)
abbrev pub own_constants : Declared → List Constant
own_constants d = drop 2 d.constants

-- its types: those after the seven basic ones (RFC 4506 section 6.3)
abbrev pub own_types : Declared → List Part
own_types d = drop 7 d.schema.names

-- ---- lines

-- what is declared by a word, its name, and what is said of it, with a space between two (own)
abbrev pub line : (word name said : List ℕ) → List ℕ
line word name said = word ++ codes " " ++ name ++ codes " " ++ said

-- a constant and its number (own)
abbrev pub constant_line : Constant → List ℕ
constant_line c = line (codes "const") c.name (signed_decimal c.value)

-- a type, its kind, and its least and greatest count of bytes (own)
abbrev pub type_line : Types → Part → List ℕ
type_line t p = line (codes "type") p.name (kind_text t p.kind)

-- numbers of a program, a version and a procedure with dots between them (RFC 5531 section 12.3; own)
abbrev pub version_path : (program version : ℕ) → List ℕ
version_path program version = decimal program ++ codes "." ++ decimal version

abbrev pub procedure_path : (program version procedure : ℕ) → List ℕ
procedure_path program version procedure =
    decimal program ++ codes "." ++ decimal version ++ codes "." ++ decimal procedure

-- the name of an argument or of a result, by which `--name` of the program names it (own)
abbrev pub part_path : (program version procedure : ℕ) → (part : List ℕ) → List ℕ
part_path program version procedure part =
    decimal program ++ codes "." ++ decimal version ++ codes "." ++ decimal procedure ++ codes "." ++ part

-- arguments, the first of which has this number (own)
abbrev pub argument_lines : Types → (program version procedure number : ℕ) → (places : List ℕ) → List (List ℕ)
argument_lines t program version procedure number [] = []
argument_lines t program version procedure number (place ∷ places) =
    line (codes "argument") (part_path program version procedure (decimal number)) (named_text t place)
    ∷ argument_lines t program version procedure (number + 1) places

-- a result; none that is void (own)
abbrev pub result_lines : Types → (program version procedure : ℕ) → (place : Option ℕ) → List (List ℕ)
result_lines t program version procedure None = []
result_lines t program version procedure (Some place) =
    line (codes "result") (part_path program version procedure (codes "result")) (named_text t place) ∷ []

-- a procedure with its numbers, its arguments from 1, and its result (own)
abbrev pub procedure_lines : Types → (program version : ℕ) → Procedure → List (List ℕ)
procedure_lines t program version p =
    line (codes "procedure") p.name (procedure_path program version p.number)
    ∷ (argument_lines t program version p.number 1 p.arguments ++ result_lines t program version p.number p.result)

-- a version with its numbers, and its procedures (own)
abbrev pub version_lines : Types → (program : ℕ) → Version → List (List ℕ)
version_lines t program v =
    line (codes "version") v.name (version_path program v.number)
    ∷ flat_map (procedure_lines t program v.number) v.procedures

-- a program with its number, and its versions (own)
abbrev pub program_lines : Types → Program → List (List ℕ)
program_lines t p = line (codes "program") p.name (decimal p.number) ∷ flat_map (version_lines t p.number) p.versions

-- all that a text declares: constants, types, programs, each in its order (own)
abbrev pub listing_lines : Declared → Types → List (List ℕ)
listing_lines d t =
    map constant_line (own_constants d) ++ map (type_line t) (own_types d) ++ flat_map (program_lines t) d.programs

-- lines with a line feed behind each (own)
abbrev pub text_of : List (List ℕ) → List ℕ
text_of lines = flat_map (λ (l : List ℕ). l ++ codes "\n") lines

abbrev pub listing : Declared → Types → List ℕ
listing d t = text_of (listing_lines d t)

-- ---- what is printed

-- The text is the listing of what is declared, in this form, with the least and the greatest count of bytes of each
-- type.
pub record IsListing (form : Declared → Types → List ℕ) (d : Declared) (text : List ℕ) : Type 0 where
  pub ranges : List Range
  pub right : AreRanges d.schema.kinds ranges
  pub printed : text ≡ form d (record { schema = d.schema; ranges = ranges })
