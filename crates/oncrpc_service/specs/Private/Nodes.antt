-- The lines of a registry's rows, node by node as they are written.
use Rattle.std.specs.Prelude.{ℕ, List, [], ◌∷◌, ◌++◌, codes, decimal}
use Rattle.xdr_types.specs.Tree as value
use Rattle.xdr_types.specs.Tree.{Head, Values, Tree}
use Rattle.oncrpc_service.specs.Rows.{escaped_text}

-- a number, or a text
abbrev pub field_text : Head → List ℕ
field_text (value.unsigned n) = decimal n
field_text (value.bytes bs) = escaped_text bs
field_text _ = []

-- fields after the first, each after a space, and the end of the line
abbrev pub more_fields : Values → List ℕ
more_fields value.none = codes "\n"
more_fields (value.node h inner rest) = 32 ∷ field_text h ++ more_fields rest

-- the fields of a row
abbrev pub fields_line : Values → List ℕ
fields_line value.none = codes "\n"
fields_line (value.node h inner rest) = field_text h ++ more_fields rest

-- a row
abbrev pub item_line : Head → Values → List ℕ
item_line value.fields vs = fields_line vs
item_line _ vs = codes "\n"

-- the rows of a list, one inside the other
abbrev pub list_lines : Head → Values → List ℕ
list_lines value.present (value.node value.fields (value.node g item (value.node h rest value.none)) value.none) =
    item_line g item ++ list_lines h rest
list_lines _ vs = []

-- a row and those that follow it
abbrev pub node_lines : Tree → List ℕ
node_lines t = list_lines value.present (value.node t.0 t.1 value.none)
