-- The parts of a value as its layout has them, each with what its node shows by itself.
use Rattle.std.specs.Prelude.{ℕ, ◌+◌, List, [], ◌∷◌, ◌++◌, length, map}
use Rattle.xdr_types.specs.Kinds.{KindView, Part, kind_at}
use Rattle.xdr_types.specs.Tree as value
use Rattle.xdr_types.specs.Tree.{Head, Values, Tree, from_list}
use Rattle.xdr_types.specs.Fits.{parts, item_part}
use Rattle.xdr_types.specs.Spelling.{own, spelling}
use Rattle.xdr_types.specs.Layout.{Entry, shown}

-- a part of a value, and the head of the node that it belongs to
pub record Seen : Type 0 where
  pub entry : Entry
  pub head : Head

-- parts of one node, with its head
abbrev pub of_node : Head → List Entry → List Seen
of_node h es = map (λ (e : Entry). let s : Seen = record { entry = e; head = h } in s) es

-- the parts of one value for each named part, in the layout's order: a node's own, those inside it, those after it (RFC
-- 4506 section 4)
abbrev pub seen_layout : List KindView → (place depth : ℕ) → List Part → Values → List Seen
seen_layout kinds place depth (p ∷ ps) (value.node h inner rest) =
    of_node h (shown place depth p (kind_at kinds p.kind) h)
    ++ (seen_layout kinds (place + length (own (kind_at kinds p.kind) h)) (depth + 1) (parts (kind_at kinds p.kind) h)
    inner
    ++ seen_layout kinds (place + length (own (kind_at kinds p.kind) h) + length
    (spelling kinds (parts (kind_at kinds p.kind) h) inner)) depth ps rest)
seen_layout kinds place depth _ _ = []

-- the parts of a value of the kind, which itself has depth 1 and no name
abbrev pub seen : List KindView → (kind : ℕ) → Tree → List Seen
seen kinds kind v = seen_layout kinds 0 1 (item_part kind ∷ []) (from_list (v ∷ []))
