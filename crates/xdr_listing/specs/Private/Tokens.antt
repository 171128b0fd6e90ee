-- The tokens of JSON in the pieces in which the code writes them.
use Rattle.std.specs.Prelude.{ℕ, List, [], ◌∷◌, ◌++◌, flat_map, codes, decimal}
use Rattle.json.specs.Token.{Token, begin_object, end_object, begin_array, end_array, key, string, number}
use Rattle.json.specs.Tree.{json_tokens}
use Rattle.xdr_types.specs.Kinds.{Part}
use Rattle.xdr_lang.specs.Declarations.{Constant, Procedure, Version, Program}
use Rattle.xdr_listing.specs.Words.{Types}
use Rattle.xdr_listing.specs.JsonListing.{constant_json, type_json, part_json, result_json}

-- an array of what has these tokens each
abbrev pub array_tokens : {A : Type 0} → (A → List Token) → List A → List Token
array_tokens f xs = begin_array ∷ (flat_map f xs ++ end_array ∷ [])

-- the beginning of an object: its name
abbrev pub named_tokens : (name : List ℕ) → List Token
named_tokens name = begin_object ∷ key (codes "name") ∷ string name ∷ []

-- the same, and its number
abbrev pub numbered_tokens : (name : List ℕ) → (n : ℕ) → List Token
numbered_tokens name n = named_tokens name ++ key (codes "number") ∷ number (decimal n) ∷ []

abbrev pub constant_tokens : Constant → List Token
constant_tokens c = json_tokens (constant_json c)

abbrev pub type_tokens : Types → Part → List Token
type_tokens t p = json_tokens (type_json t p)

abbrev pub part_tokens : Types → (place : ℕ) → List Token
part_tokens t place = json_tokens (part_json t place)

abbrev pub procedure_tokens : Types → Procedure → List Token
procedure_tokens t p =
    numbered_tokens p.name p.number ++ (key (codes "arguments") ∷ (array_tokens (part_tokens t) p.arguments
    ++ key (codes "result") ∷ (json_tokens (result_json t p.result) ++ end_object ∷ [])))

abbrev pub version_tokens : Types → Version → List Token
version_tokens t v =
    numbered_tokens v.name v.number ++ (key (codes "procedures")
    ∷ (array_tokens (procedure_tokens t) v.procedures ++ end_object ∷ []))

abbrev pub program_tokens : Types → Program → List Token
program_tokens t p =
    numbered_tokens p.name p.number ++ (key (codes "versions")
    ∷ (array_tokens (version_tokens t) p.versions ++ end_object ∷ []))

-- all of them
abbrev pub all_tokens : Types → List Constant → List Part → List Program → List Token
all_tokens t constants names programs =
    begin_object ∷ key (codes "constants") ∷ (array_tokens constant_tokens constants
    ++ key (codes "types") ∷ (array_tokens (type_tokens t) names
    ++ key (codes "programs") ∷ (array_tokens (program_tokens t) programs ++ end_object ∷ [])))
