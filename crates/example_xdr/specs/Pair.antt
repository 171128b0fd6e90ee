-- A structure of a number and a string, a value of it, and its bytes (RFC 4506 sections 4.1, 4.11, 4.14).
use Rattle.std.specs.Prelude.{ℕ, pos, List, [], ◌∷◌, codes}
use Rattle.xdr_types.specs.Kinds as xdr
use Rattle.xdr_types.specs.Kinds.{KindView}
use Rattle.xdr_types.specs.Tree as value
use Rattle.xdr_types.specs.Tree.{Tree, from_list}
use Rattle.xdr_stream.specs.declared.fault.DecodeFault.{DecodeFault}
use Rattle.xdr_stream.specs.declared.fault.Reason.TheVariants.{TooDeep}
use Rattle.example_xdr.specs.Rfc.{part, content}

-- int at place 0, a string at place 1, the structure of both at place 2
abbrev pub pair_kinds : List KindView
pair_kinds =
    xdr.int ∷ xdr.text 255 ∷ xdr.structure (part (codes "number") 0 ∷ part (codes "name") 1 ∷ []) ∷ []

-- 3 and "abc"
abbrev pub pair : Tree
pair = (value.fields, from_list ((value.int (pos 3), value.none) ∷ content (codes "abc") ∷ []))

-- its twelve bytes
abbrev pub pair_bytes : List ℕ
pair_bytes = 0 ∷ 0 ∷ 0 ∷ 3 ∷ 0 ∷ 0 ∷ 0 ∷ 3 ∷ 97 ∷ 98 ∷ 99 ∷ 0 ∷ []

-- a value is too deep at its beginning
abbrev pub too_deep : DecodeFault
too_deep = record { why = TooDeep; at = 0 }
