-- The nodes of a value with their places, and how a step leads from one to another.
use Rattle.std.specs.Prelude.{◌≡◌, ℕ, ◌+◌, List, [], ◌∷◌, ◌++◌, length, Option, Some, None, bytes_eq, slice_get}
use Rattle.std.specs.List.{find}
use Rattle.xdr_types.specs.Kinds as xdr
use Rattle.xdr_types.specs.Kinds.{KindView, Part, kind_at}
use Rattle.xdr_types.specs.Tree as value
use Rattle.xdr_types.specs.Tree.{Head, Values, Tree}
use Rattle.xdr_types.specs.Fits.{parts, item_part}
use Rattle.xdr_types.specs.Spelling.{own, spelling}
use Rattle.xdr_types.specs.Layout.{Entry, shown}

-- a node of a value (RFC 4506 section 4): the place and the depth that the layout gives it, and the part that it stands
-- for. Then what it shows by itself, and the values of its parts
pub record Node : Type 0 where
  pub place : ℕ
  pub depth : ℕ
  pub part : Part
  pub head : Head
  pub inner : Values

-- the nodes of one value for each part, with the places that the layout gives them (RFC 4506 section 4)
abbrev pub nodes : List KindView → (place depth : ℕ) → List Part → Values → List Node
nodes kinds place depth (p ∷ ps) (value.node h inner rest) =
    record { place = place; depth = depth; part = p; head = h; inner = inner }
    ∷ nodes kinds (place + length (own (kind_at kinds p.kind) h) + length
    (spelling kinds (parts (kind_at kinds p.kind) h) inner)) depth ps rest
nodes kinds place depth _ _ = []

-- the nodes right inside a node: fields, items, the part of an arm, an optional item (RFC 4506 sections 4.12 to 4.15,
-- 4.19)
abbrev pub inside : List KindView → Node → List Node
inside kinds n =
    nodes kinds (n.place + length (own (kind_at kinds n.part.kind) n.head)) (n.depth + 1)
    (parts (kind_at kinds n.part.kind) n.head) n.inner

-- the value itself, as the node that it is
abbrev pub root : (kind : ℕ) → Tree → Node
root kind v = record { place = 0; depth = 1; part = item_part kind; head = v.0; inner = v.1 }

-- the kind of an optional's item (RFC 4506 section 4.19)
abbrev pub item_of : KindView → ℕ
item_of (xdr.maybe item) = item
item_of _ = 0

-- the node that stands for a part here: optional data that is there is its item, however often (RFC 4506 section 4.19)
abbrev pub settled_at : List KindView → (place depth : ℕ) → Part → Head → Values → Node
settled_at kinds place depth p value.present (value.node h inner rest) =
    settled_at kinds (place + 4) (depth + 1) (item_part (item_of (kind_at kinds p.kind))) h inner
settled_at kinds place depth p h inner =
    record { place = place; depth = depth; part = p; head = h; inner = inner }

-- the same of a node
abbrev pub settled : List KindView → Node → Node
settled kinds n = settled_at kinds n.place n.depth n.part n.head n.inner

-- a step of a path
pub data Step : Type 0 where
  -- to the field, or the part of an arm, with this name (RFC 4506 sections 4.14, 4.15)
  to_field : (name : List ℕ) → Step
  -- to the item with this index, from 0 (RFC 4506 sections 4.12, 4.13)
  to_item : (index : ℕ) → Step

-- the node with a name, the first of them
abbrev pub node_named : List ℕ → List Node → Option Node
node_named name ns = find (λ (m : Node). bytes_eq m.part.name name) ns

-- the node that a step leads to, by the head of the node that it leads from and the nodes inside that
abbrev pub step_to : Head → List Node → Step → Option Node
step_to value.fields ns (to_field name) = node_named name ns
step_to (value.tag number) ns (to_field name) = node_named name ns
step_to (value.items count) ns (to_item index) = slice_get ns index
step_to _ ns step = None

-- the part that stands for a node is the last that it has by itself: content, and not its length
abbrev pub IsOwn : List KindView → Node → Entry → Type 0
IsOwn kinds n e =
    (before : List Entry)
    × (shown n.place n.depth n.part (kind_at kinds n.part.kind) n.head ≡ before ++ e ∷ [])

-- the steps lead from a node to the part
abbrev pub LeadTo : List KindView → Node → List Step → Entry → Type 0
LeadTo kinds n [] e = IsOwn kinds n e
LeadTo kinds n (step ∷ steps) e =
    (m : Node) × (step_to n.head (inside kinds n) step ≡ Some m) × LeadTo kinds (settled kinds m) steps e
