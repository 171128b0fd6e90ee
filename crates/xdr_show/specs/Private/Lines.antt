-- The same lines node by node, without the places of bytes: what the code writes.
use Rattle.std.specs.Prelude.{ℕ, ◌+◌, List, [], ◌∷◌, ◌++◌, length}
use Rattle.xdr_types.specs.Kinds as xdr
use Rattle.xdr_types.specs.Kinds.{KindView, Part, kind_at}
use Rattle.xdr_types.specs.Tree as value
use Rattle.xdr_types.specs.Tree.{Head, Values, Tree}
use Rattle.xdr_types.specs.Fits.{parts}
use Rattle.xdr_types.specs.Layout.{Role, of_number, of_flag, of_length, of_content, of_group}
use Rattle.xdr_show.specs.Line.{part_text, line_text}

-- the role of the one part of a node that has a line
abbrev pub role_of : KindView → Head → Role
role_of f (value.bytes bs) = of_content (length bs)
role_of (xdr.fixed item size) (value.items n) = of_group
role_of f (value.items n) = of_length
role_of f value.fields = of_group
role_of f value.present = of_flag
role_of f value.absent = of_flag
role_of f value.nothing = of_group
role_of f h = of_number

-- what the line of a node says
abbrev pub node_text : List KindView → KindView → Head → List ℕ
node_text kinds f h = part_text kinds f (role_of f h) h

-- the line of a node
abbrev pub node_line : List KindView → (depth : ℕ) → Part → Head → List ℕ
node_line kinds depth p h = line_text depth p.name (node_text kinds (kind_at kinds p.kind) h)

-- the lines of one value for each named part: a node's own, those inside it, those after it
abbrev pub lines : List KindView → (depth : ℕ) → List Part → Values → List ℕ
lines kinds depth (p ∷ ps) (value.node h inner rest) =
    (node_line kinds depth p h ++ lines kinds (depth + 1) (parts (kind_at kinds p.kind) h) inner)
    ++ lines kinds depth ps rest
lines kinds depth _ _ = []

-- the lines of a value that stands for a named part
abbrev pub value_lines : List KindView → (depth : ℕ) → Part → Tree → List ℕ
value_lines kinds depth p t = node_line kinds depth p t.0
    ++ lines kinds (depth + 1) (parts (kind_at kinds p.kind) t.0) t.1
