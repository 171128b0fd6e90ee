-- The tree that a `Value` represents.
use Rattle.std.specs.Prelude.{List, [], ◌∷◌, map, length, Option, Some, None}
use Rattle.std.specs.declared.boxed.Box.{Box}
use Rattle.std.specs.declared.alloc.Global.{Global}
use Rattle.xdr_types.specs.Tree.{Tree, Values, none, from_list, int, unsigned, hyper, unsigned_hyper, boolean, numbered}
use Rattle.xdr_types.specs.Tree.{bytes, items, fields, tag, present, absent, nothing}
use Rattle.xdr_types.specs.declared.value.Value.{Value, fold-Value}
use Rattle.xdr_types.specs.declared.value.Value.TheOpen.{Value-F}

-- an optional item: absent, or present with the item under it (RFC 4506 section 4.19)
abbrev pub optional : Option (Box Tree Global) → Tree
optional None = (absent, none)
optional (Some t) = (present, from_list (t.value ∷ []))

-- one level, with each value inside already seen as its tree (RFC 4506 sections 4.1 to 4.19)
abbrev pub tree_step : Value-F Tree → Tree
tree_step (Value-F.Int n) = (int n, none)
tree_step (Value-F.Unsigned n) = (unsigned n, none)
tree_step (Value-F.Hyper n) = (hyper n, none)
tree_step (Value-F.UnsignedHyper n) = (unsigned_hyper n, none)
tree_step (Value-F.Bool b) = (boolean b, none)
tree_step (Value-F.Numbered n) = (numbered n, none)
tree_step (Value-F.Bytes v) = (bytes v.items, none)
tree_step (Value-F.List v) = (items (length v.items), from_list v.items)
tree_step (Value-F.Group v) = (fields, from_list v.items)
tree_step (Value-F.Choice z part) = (tag z, from_list (part.value ∷ []))
tree_step (Value-F.Maybe item) = optional item
tree_step Value-F.Nothing = (nothing, none)

-- the tree of a value
abbrev pub tree : Value → Tree
tree = fold-Value Tree tree_step

-- values one after another
abbrev pub values : List Value → Values
values vs = from_list (map tree vs)
