-- The lines of a listing in the pieces in which the code writes them.
use Rattle.std.specs.Prelude.{ℕ, ◌+◌, List, [], ◌∷◌, ◌++◌, flat_map, Option, Some, None, codes, decimal}
use Rattle.xdr_types.specs.Kinds.{Part}
use Rattle.xdr_lang.specs.Declarations.{Constant, Procedure, Version, Program}
use Rattle.xdr_listing.specs.Words.{Types, named_text}
use Rattle.xdr_listing.specs.Listing.{line, constant_line, type_line, part_path, procedure_path, version_path}

-- a line with its line feed
abbrev pub ended : List ℕ → List ℕ
ended l = l ++ codes "\n"

abbrev pub constant_piece : Constant → List ℕ
constant_piece c = ended (constant_line c)

abbrev pub type_piece : Types → Part → List ℕ
type_piece t p = ended (type_line t p)

abbrev pub argument_piece : Types → (program version procedure number place : ℕ) → List ℕ
argument_piece t program version procedure number place =
    ended (line (codes "argument") (part_path program version procedure (decimal number)) (named_text t place))

abbrev pub argument_pieces : Types → (program version procedure number : ℕ) → (places : List ℕ) → List ℕ
argument_pieces t program version procedure number [] = []
argument_pieces t program version procedure number (place ∷ places) =
    argument_piece t program version procedure number place
    ++ argument_pieces t program version procedure (number + 1) places

abbrev pub result_piece : Types → (program version procedure : ℕ) → (place : Option ℕ) → List ℕ
result_piece t program version procedure None = []
result_piece t program version procedure (Some place) =
    ended (line (codes "result") (part_path program version procedure (codes "result")) (named_text t place))

abbrev pub procedure_piece : Types → (program version : ℕ) → Procedure → List ℕ
procedure_piece t program version p =
    ended (line (codes "procedure") p.name (procedure_path program version p.number))
    ++ (argument_pieces t program version p.number 1 p.arguments ++ result_piece t program version p.number p.result)

abbrev pub version_piece : Types → (program : ℕ) → Version → List ℕ
version_piece t program v =
    ended (line (codes "version") v.name (version_path program v.number))
    ++ flat_map (procedure_piece t program v.number) v.procedures

abbrev pub program_piece : Types → Program → List ℕ
program_piece t p =
    ended (line (codes "program") p.name (decimal p.number)) ++ flat_map (version_piece t p.number) p.versions

-- all of them
abbrev pub pieces : Types → List Constant → List Part → List Program → List ℕ
pieces t constants names programs =
    flat_map constant_piece constants ++ (flat_map (type_piece t) names ++ flat_map (program_piece t) programs)
