-- A worked value: a structure of a number and a string (RFC 4506 sections 4.2, 4.11, 4.14).
use Rattle.std.specs.Prelude.{◌≡◌, ℕ, List, [], ◌∷◌, ◌++◌, codes, Option, Some, None}
use Rattle.xdr_types.specs.Kinds as xdr
use Rattle.xdr_types.specs.Kinds.{KindView}
use Rattle.xdr_types.specs.Named.{place_named}
use Rattle.xdr_lang.specs.Declarations.{Declared}
use Rattle.c_values.specs.declared.part.ValuePart.{ValuePart}
use Rattle.c_values.specs.declared.listed.PartsOutcome.{PartsOutcome}

-- an unsigned number at place 0, a string at place 1, the structure at place 2
abbrev pub pair_kinds : List KindView
pair_kinds =
    xdr.unsigned
    ∷ xdr.text 255
    ∷ xdr.structure (record { name = codes "id"; kind = 0 } ∷ record { name = codes "name"; kind = 1 } ∷ [])
    ∷ []

-- these kinds are held, and the structure is named pair
abbrev pub HoldsPair : Option Declared → Type 0
HoldsPair None = ⊥
HoldsPair (Some d) = (d.schema.kinds ≡ pair_kinds) × (place_named d.schema.names (codes "pair") ≡ Some 2)

-- the number 5, and the string abc with its length and one zero after it
abbrev pub pair_bytes : List ℕ
pair_bytes = 0 ∷ 0 ∷ 0 ∷ 5 ∷ 0 ∷ 0 ∷ 0 ∷ 3 ∷ codes "abc" ++ 0 ∷ []

-- a part of a node with a name that is this long
abbrev pub pair_part : (at count name_at name_count depth kind xdr_type role : ℕ) → ValuePart
pair_part at count name_at name_count depth kind xdr_type role = record {
  at = at;
  count = count;
  name_at = name_at;
  name_count = name_count;
  depth = depth;
  kind = kind;
  xdr_type = xdr_type;
  role = role;
}

-- the structure, the number, the string's length and its content
abbrev pub pair_parts : List ValuePart
pair_parts =
    pair_part 0 0 0 0 1 2 12 5
    ∷ pair_part 0 4 0 2 2 0 2 1
    ∷ pair_part 4 4 2 4 2 1 9 3
    ∷ pair_part 8 3 6 4 2 1 9 4
    ∷ []

-- 12 bytes, four parts, ten bytes of names
abbrev pub pair_outcome : PartsOutcome
pair_outcome = record { at = 12; parts = 4; names = 10; why = 0 }
