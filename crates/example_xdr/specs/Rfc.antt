-- The file of RFC 4506 section 7 with its bytes and lines, and a list of strings like that of section 4.19.
use Rattle.std.specs.Prelude.{ℕ, pos, List, [], ◌∷◌, ◌++◌, None, codes}
use Rattle.xdr_types.specs.Kinds as xdr
use Rattle.xdr_types.specs.Kinds.{KindView, Part, Branch, Constant}
use Rattle.xdr_types.specs.Tree as value
use Rattle.xdr_types.specs.Tree.{Tree, from_list}

-- a member of the enumeration
abbrev pub constant : (name : List ℕ) → (number : ℕ) → Constant
constant name number = record { name = name; number = pos number }

-- a field, or the part of an arm
abbrev pub part : (name : List ℕ) → (kind : ℕ) → Part
part name kind = record { name = name; kind = kind }

-- an arm under one case
abbrev pub arm : (case : ℕ) → Part → Branch
arm case p = record { cases = pos case ∷ []; part = p }

-- the first two members of filekind
abbrev pub two_members : List Constant
two_members = constant (codes "TEXT") 0 ∷ constant (codes "DATA") 1 ∷ []

-- the arms of filetype: void under TEXT, the creator under DATA, the interpretor under EXEC
abbrev pub file_arms : List Branch
file_arms = arm 0 (part [] 1) ∷ arm 1 (part (codes "creator") 2) ∷ arm 2 (part (codes "interpretor") 2) ∷ []

-- the fields of file
abbrev pub file_fields : List Part
file_fields =
    part (codes "filename") 2 ∷ part (codes "type") 4 ∷ part (codes "owner") 3 ∷ part (codes "data") 5 ∷ []

-- filekind at place 0, filetype at place 4, file at place 6
abbrev pub file_kinds : List KindView
file_kinds =
    xdr.numbered (constant (codes "TEXT") 0 ∷ constant (codes "DATA") 1 ∷ constant (codes "EXEC") 2 ∷ [])
    ∷ xdr.nothing
    ∷ xdr.text 255
    ∷ xdr.text 32
    ∷ xdr.choice 0 file_arms None
    ∷ xdr.opaque_up_to 65535
    ∷ xdr.structure file_fields
    ∷ []

-- content without parts
abbrev pub content : List ℕ → Tree
content bytes = (value.bytes bytes, value.none)

-- made to be run by lisp
abbrev pub run_by_lisp : Tree
run_by_lisp = (value.tag (pos 2), from_list (content (codes "lisp") ∷ []))

-- name, type, owner, data
abbrev pub sillyprog_parts : List Tree
sillyprog_parts = content (codes "sillyprog") ∷ run_by_lisp ∷ content (codes "john") ∷ content (codes "(quit)") ∷ []

-- the file sillyprog, which john owns, with the content (quit)
abbrev pub sillyprog : Tree
sillyprog = (value.fields, from_list sillyprog_parts)

-- its 48 bytes
abbrev pub sillyprog_bytes : List ℕ
sillyprog_bytes =
    0 ∷ 0 ∷ 0 ∷ 9 ∷ codes "sillyprog" ++ 0 ∷ 0 ∷ 0
    ∷ 0 ∷ 0 ∷ 0 ∷ 2
    ∷ 0 ∷ 0 ∷ 0 ∷ 4 ∷ codes "lisp" ++ 0 ∷ 0 ∷ 0 ∷ 4 ∷ codes "john" ++ 0 ∷ 0 ∷ 0 ∷ 6 ∷ codes "(quit)" ++ 0 ∷ 0 ∷ []

-- the lines that are shown of it
abbrev pub sillyprog_lines : List ℕ
sillyprog_lines =
    codes "struct\n  filename: \"sillyprog\"\n  type: case EXEC = 2\n    interpretor: \"lisp\"\n"
    ++ codes "  owner: \"john\"\n  data: 0x287175697429\n"

-- strings at place 0, a list of them at place 1, an entry of the list at place 2
abbrev pub list_kinds : List KindView
list_kinds =
    xdr.text 4294967295
    ∷ xdr.maybe 2
    ∷ xdr.structure (part (codes "item") 0 ∷ part (codes "next") 1 ∷ [])
    ∷ []

-- a list that begins with this string
abbrev pub entry : List ℕ → (next : Tree) → Tree
entry item next = (value.present, from_list ((value.fields, from_list (content item ∷ next ∷ [])) ∷ []))

-- the list of two strings, of one character and of two
abbrev pub strings : Tree
strings = entry (codes "a") (entry (codes "bc") (value.absent, value.none))

-- its 28 bytes
abbrev pub strings_bytes : List ℕ
strings_bytes =
    0 ∷ 0 ∷ 0 ∷ 1 ∷ 0 ∷ 0 ∷ 0 ∷ 1 ∷ 97 ∷ 0 ∷ 0 ∷ 0
    ∷ 0 ∷ 0 ∷ 0 ∷ 1 ∷ 0 ∷ 0 ∷ 0 ∷ 2 ∷ 98 ∷ 99 ∷ 0 ∷ 0
    ∷ 0 ∷ 0 ∷ 0 ∷ 0 ∷ []
