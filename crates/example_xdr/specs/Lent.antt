-- The parts of the file of RFC 4506 section 7, and their bytes.
use Rattle.std.specs.Prelude.{ℕ, List, [], ◌∷◌, codes, map}
use Rattle.xdr_types.specs.Layout.{Entry, entry, of_number, of_length, of_content, of_group}
use Rattle.xdr_parts.specs.declared.part.Lent.{Lent}
use Rattle.example_xdr.specs.Rfc.{part}

-- the ten parts: the structure has no bytes, content has zeros after it
abbrev pub sillyprog_entries : List Entry
sillyprog_entries =
    entry 0 0 1 (part [] 6) of_group
    ∷ entry 0 4 2 (part (codes "filename") 2) of_length
    ∷ entry 4 12 2 (part (codes "filename") 2) (of_content 9)
    ∷ entry 16 4 2 (part (codes "type") 4) of_number
    ∷ entry 20 4 3 (part (codes "interpretor") 2) of_length
    ∷ entry 24 4 3 (part (codes "interpretor") 2) (of_content 4)
    ∷ entry 28 4 2 (part (codes "owner") 3) of_length
    ∷ entry 32 4 2 (part (codes "owner") 3) (of_content 4)
    ∷ entry 36 4 2 (part (codes "data") 5) of_length
    ∷ entry 40 8 2 (part (codes "data") 5) (of_content 6)
    ∷ []

-- the bytes that are lent for each of them
abbrev pub sillyprog_lent : List (List ℕ)
sillyprog_lent =
    []
    ∷ (0 ∷ 0 ∷ 0 ∷ 9 ∷ [])
    ∷ codes "sillyprog"
    ∷ (0 ∷ 0 ∷ 0 ∷ 2 ∷ [])
    ∷ (0 ∷ 0 ∷ 0 ∷ 4 ∷ [])
    ∷ codes "lisp"
    ∷ (0 ∷ 0 ∷ 0 ∷ 4 ∷ [])
    ∷ codes "john"
    ∷ (0 ∷ 0 ∷ 0 ∷ 6 ∷ [])
    ∷ codes "(quit)"
    ∷ []

-- the bytes of each of several parts
abbrev pub bytes_of_each : List Lent → List (List ℕ)
bytes_of_each ls = map (λ (l : Lent). l.bytes.now) ls
