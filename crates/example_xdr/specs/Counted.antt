-- An array of integers, a value of it, and its bytes (RFC 4506 sections 4.1, 4.13).
use Rattle.std.specs.Prelude.{ℕ, pos, negsuc, List, [], ◌∷◌}
use Rattle.xdr_types.specs.Kinds as xdr
use Rattle.xdr_types.specs.Kinds.{KindView}
use Rattle.xdr_types.specs.Tree as value
use Rattle.xdr_types.specs.Tree.{Tree, from_list}

-- int at place 0, at place 1 an array of at most ten
abbrev pub array_kinds : List KindView
array_kinds = xdr.int ∷ xdr.up_to 0 10 ∷ []

-- 3 and -1
abbrev pub array : Tree
array =
    (value.items 2, from_list ((value.int (pos 3), value.none) ∷ (value.int (negsuc 0), value.none) ∷ []))

-- its twelve bytes
abbrev pub array_bytes : List ℕ
array_bytes = 0 ∷ 0 ∷ 0 ∷ 2 ∷ 0 ∷ 0 ∷ 0 ∷ 3 ∷ 255 ∷ 255 ∷ 255 ∷ 255 ∷ []
