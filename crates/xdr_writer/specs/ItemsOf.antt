-- The items of a value: the parts of its layout that have bytes, a length and the content after it as one (RFC 4506
-- section 4).
use Rattle.std.specs.Prelude.{ℕ, pos, true, false, List, [], ◌∷◌, ◌++◌}
use Rattle.xdr_types.specs.Kinds as xdr
use Rattle.xdr_types.specs.Kinds.{KindView, Part, kind_at}
use Rattle.xdr_types.specs.Tree as value
use Rattle.xdr_types.specs.Tree.{Head, Values, Tree}
use Rattle.xdr_types.specs.Fits.{parts}
use Rattle.xdr_units.specs.Numbers.{number_of}
use Rattle.xdr_writer.specs.Items.{ItemView, number, flag, count, content, NodeItem, of_node, items}

-- content of fixed size, where it has bytes (RFC 4506 section 4.9)
abbrev pub fixed_content : KindView → List ℕ → List NodeItem
fixed_content kind [] = []
fixed_content kind (b ∷ bs) = of_node kind (content (b ∷ bs)) ∷ []

-- the items that a node of a kind has by itself (RFC 4506 sections 4.1 to 4.19)
abbrev pub own_items : KindView → Head → List NodeItem
own_items kind (value.int z) = of_node kind (number z) ∷ []
own_items kind (value.unsigned n) = of_node kind (number (pos n)) ∷ []
own_items kind (value.hyper z) = of_node kind (number z) ∷ []
own_items kind (value.unsigned_hyper n) = of_node kind (number (pos n)) ∷ []
own_items kind (value.boolean b) = of_node kind (number (number_of b)) ∷ []
own_items kind (value.numbered z) = of_node kind (number z) ∷ []
own_items (xdr.opaque size) (value.bytes bs) = fixed_content (xdr.opaque size) bs
own_items kind (value.bytes bs) = of_node kind (content bs) ∷ []
own_items (xdr.fixed item size) (value.items n) = []
own_items kind (value.items n) = of_node kind (count n) ∷ []
own_items kind value.fields = []
own_items kind (value.tag z) = of_node kind (number z) ∷ []
own_items kind value.present = of_node kind (flag true) ∷ []
own_items kind value.absent = of_node kind (flag false) ∷ []
own_items kind value.nothing = []

-- those of one value for each named part: each node's own and then those of its parts (RFC 4506 sections 4.12 to 4.15)
abbrev pub node_items_in : List KindView → List Part → Values → List NodeItem
node_items_in kinds (p ∷ ps) (value.node h inner rest) =
    own_items (kind_at kinds p.kind) h
    ++ (node_items_in kinds (parts (kind_at kinds p.kind) h) inner ++ node_items_in kinds ps rest)
node_items_in kinds _ _ = []

-- those of a value of the kind at a place
abbrev pub node_items_of : List KindView → (kind : ℕ) → Tree → List NodeItem
node_items_of kinds kind v =
    own_items (kind_at kinds kind) v.0 ++ node_items_in kinds (parts (kind_at kinds kind) v.0) v.1

-- the items of a value of the kind at a place
abbrev pub items_of : List KindView → (kind : ℕ) → Tree → List ItemView
items_of kinds kind v = items (node_items_of kinds kind v)
