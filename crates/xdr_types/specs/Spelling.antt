-- The encoding of a value: its bytes (RFC 4506 sections 3 and 4).
use Rattle.std.specs.Prelude.{ℕ, pos, List, [], ◌∷◌, ◌++◌, length}
use Rattle.xdr_types.specs.Kinds as xdr
use Rattle.xdr_types.specs.Kinds.{KindView, Part, kind_at}
use Rattle.xdr_types.specs.Tree as value
use Rattle.xdr_types.specs.Tree.{Head, Values, Tree}
use Rattle.xdr_units.specs.Numbers.{num4, num8, number_of, padded}
use Rattle.xdr_types.specs.Fits.{parts}

-- the bytes that a node of a kind has before those of its parts: a number, a length, a flag, content (RFC 4506 sections
-- 4.1 to 4.19)
abbrev pub own : KindView → Head → List ℕ
own kind (value.int z) = num4 z
own kind (value.unsigned n) = num4 (pos n)
own kind (value.hyper z) = num8 z
own kind (value.unsigned_hyper n) = num8 (pos n)
own kind (value.boolean b) = num4 (number_of b)
own kind (value.numbered z) = num4 z
own (xdr.opaque size) (value.bytes bs) = padded bs
own kind (value.bytes bs) = num4 (pos (length bs)) ++ padded bs
own (xdr.fixed item size) (value.items n) = []
own kind (value.items n) = num4 (pos n)
own kind value.fields = []
own kind (value.tag z) = num4 z
own kind value.present = num4 (pos 1)
own kind value.absent = num4 (pos 0)
own kind value.nothing = []

-- the bytes of one value for each part, joined: each node's own and then those of its parts (RFC 4506 sections 4.12 to
-- 4.15)
abbrev pub spelling : List KindView → List Part → Values → List ℕ
spelling kinds (p ∷ ps) (value.node h inner rest) =
    (own (kind_at kinds p.kind) h ++ spelling kinds (parts (kind_at kinds p.kind) h) inner) ++ spelling kinds ps rest
spelling kinds _ _ = []

-- the encoding of a value of the kind at a place
abbrev pub bytes_of : List KindView → ℕ → Tree → List ℕ
bytes_of kinds place t = own (kind_at kinds place) t.0 ++ spelling kinds (parts (kind_at kinds place) t.0) t.1
