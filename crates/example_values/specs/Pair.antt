-- A structure of a number and a string, its bytes, and a union (RFC 4506 sections 4.1, 4.11, 4.14, 4.15).
use Rattle.std.specs.Prelude.{ℕ, pos, List, [], ◌∷◌, codes, None}
use Rattle.xdr_types.specs.Kinds as xdr
use Rattle.xdr_types.specs.Kinds.{KindView, Part}

-- a part of this name
abbrev pub part : (name : List ℕ) → (kind : ℕ) → Part
part name kind = record { name = name; kind = kind }

-- int at place 0, a string at place 1, the structure of both at place 2
abbrev pub pair_kinds : List KindView
pair_kinds =
    xdr.int ∷ xdr.text 255 ∷ xdr.structure (part (codes "number") 0 ∷ part (codes "name") 1 ∷ []) ∷ []

-- the twelve bytes of 3 and "abc"
abbrev pub pair_bytes : List ℕ
pair_bytes = 0 ∷ 0 ∷ 0 ∷ 3 ∷ 0 ∷ 0 ∷ 0 ∷ 3 ∷ 97 ∷ 98 ∷ 99 ∷ 0 ∷ []

-- a union over the kind at place 0, whose one arm lists 1 and has the kind at place 1
abbrev pub lone_arm : KindView
lone_arm = xdr.choice 0 (record { cases = pos 1 ∷ []; part = part [] 1 } ∷ []) None
