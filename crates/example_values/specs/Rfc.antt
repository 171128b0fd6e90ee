-- The file of RFC 4506 section 7, and a list of strings like that of section 4.19.
use Rattle.std.specs.Prelude.{ℕ, pos, List, [], ◌∷◌, None, codes}
use Rattle.xdr_types.specs.Kinds as xdr
use Rattle.xdr_types.specs.Kinds.{KindView, Part, Branch, Constant}

-- a member of an enumeration (RFC 4506 section 4.3)
abbrev pub constant : (name : List ℕ) → (number : ℕ) → Constant
constant name number = record { name = name; number = pos number }

-- a field, or the part of an arm (RFC 4506 sections 4.14, 4.15)
abbrev pub part : (name : List ℕ) → (kind : ℕ) → Part
part name kind = record { name = name; kind = kind }

-- an arm under one case (RFC 4506 section 4.15)
abbrev pub arm : (case : ℕ) → Part → Branch
arm case p = record { cases = pos case ∷ []; part = p }

-- the members of filekind (RFC 4506 section 7)
abbrev pub file_members : List Constant
file_members = constant (codes "TEXT") 0 ∷ constant (codes "DATA") 1 ∷ constant (codes "EXEC") 2 ∷ []

-- the arms of filetype: void under TEXT, the creator under DATA, the interpretor under EXEC (RFC 4506 section 7)
abbrev pub file_arms : List Branch
file_arms = arm 0 (part [] 1) ∷ arm 1 (part (codes "creator") 2) ∷ arm 2 (part (codes "interpretor") 2) ∷ []

-- the fields of file (RFC 4506 section 7)
abbrev pub file_fields : List Part
file_fields =
    part (codes "filename") 2 ∷ part (codes "type") 4 ∷ part (codes "owner") 3 ∷ part (codes "data") 5 ∷ []

-- filekind at place 0, filetype at place 4, file at place 6 (RFC 4506 section 7)
abbrev pub file_kinds : List KindView
file_kinds =
    xdr.numbered file_members
    ∷ xdr.nothing
    ∷ xdr.text 255
    ∷ xdr.text 32
    ∷ xdr.choice 0 file_arms None
    ∷ xdr.opaque_up_to 65535
    ∷ xdr.structure file_fields
    ∷ []

-- the fields of an entry of a list (RFC 4506 section 4.19)
abbrev pub entry_fields : List Part
entry_fields = part (codes "item") 0 ∷ part (codes "next") 1 ∷ []

-- strings at place 0, a list of them at place 1, an entry of the list at place 2 (RFC 4506 section 4.19)
abbrev pub list_kinds : List KindView
list_kinds = xdr.text 4294967295 ∷ xdr.maybe 2 ∷ xdr.structure entry_fields ∷ []
