-- The file of RFC 4506 section 7, and its JSON.
use Rattle.std.specs.Prelude.{ℕ, pos, List, [], ◌∷◌, ◌++◌, None, codes}
use Rattle.xdr_types.specs.Kinds as xdr
use Rattle.xdr_types.specs.Kinds.{KindView, Part, Branch, Constant}
use Rattle.xdr_types.specs.Tree as value
use Rattle.xdr_types.specs.Tree.{Tree, from_list}

-- a member of an enumeration (RFC 4506 section 4.3)
abbrev pub constant : (name : List ℕ) → (number : ℕ) → Constant
constant name number = record { name = name; number = pos number }

-- a field, or the part of an arm (RFC 4506 sections 4.14, 4.15)
abbrev pub part : (name : List ℕ) → (kind : ℕ) → Part
part name kind = record { name = name; kind = kind }

-- an arm under one case (RFC 4506 section 4.15)
abbrev pub arm : (case : ℕ) → Part → Branch
arm case p = record { cases = pos case ∷ []; part = p }

-- content without parts (RFC 4506 sections 4.9 to 4.11)
abbrev pub content : List ℕ → Tree
content bytes = (value.bytes bytes, value.none)

-- filekind, void, strings, an opaque, filetype, and file at place 5 (RFC 4506 section 7)
abbrev pub file_kinds : List KindView
file_kinds =
    xdr.numbered (constant (codes "TEXT") 0 ∷ constant (codes "DATA") 1 ∷ constant (codes "EXEC") 2 ∷ [])
    ∷ xdr.nothing
    ∷ xdr.text 255
    ∷ xdr.opaque_up_to 65535
    ∷ xdr.choice 0
    (arm 0 (part [] 1) ∷ arm 1 (part (codes "creator") 2) ∷ arm 2 (part (codes "interpretor") 2) ∷ []) None
    ∷ xdr.structure
    (part (codes "filename") 2 ∷ part (codes "type") 4 ∷ part (codes "owner") 2 ∷ part (codes "data") 3 ∷ [])
    ∷ []

-- a file of this type, which john owns (RFC 4506 section 7)
abbrev pub file_of : (kind : Tree) → Tree
file_of kind = (
  value.fields,
  from_list (content (codes "sillyprog") ∷ kind ∷ content (codes "john")
      ∷ content (codes "(quit)") ∷ []),
)

-- one that lisp runs (RFC 4506 section 7)
abbrev pub sillyprog : Tree
sillyprog = file_of (value.tag (pos 2), from_list (content (codes "lisp") ∷ []))

-- one of plain text
abbrev pub plain : Tree
plain = file_of (value.tag (pos 0), from_list ((value.nothing, value.none) ∷ []))

-- the JSON of the first
abbrev pub sillyprog_text : List ℕ
sillyprog_text =
    codes "{\"filename\":\"sillyprog\",\"type\":{\"case\":\"EXEC\",\"interpretor\":\"lisp\"},"
    ++ codes "\"owner\":\"john\",\"data\":\"287175697429\"}"

-- the JSON of the second, a line for each member
abbrev pub plain_lines : List ℕ
plain_lines =
    codes "{\n  \"filename\": \"sillyprog\",\n  \"type\": {\n    \"case\": \"TEXT\"\n  },\n"
    ++ codes "  \"owner\": \"john\",\n  \"data\": \"287175697429\"\n}"
