-- The tree of each form of value.
use Rattle.std.proofs.Common.{◌≡◌, ℤ, [], ◌∷◌, length, Vec, Box, Global, Some, None, rules}
use Rattle.std.proofs.lemmas.List.{length-map}
use Rattle.xdr_types.specs.Tree.{none, from_list, items, fields, tag, absent, present}
use Rattle.xdr_types.specs.View.{tree, values}
use Rattle.xdr_types.specs.declared.value.Value as Value'
use Rattle.xdr_types.specs.declared.value.Value.{Value, the_lemmas}

pub tree-List : (v : Vec Value Global) → tree (Value'.List v) ≡ (items (length v.items), values v.items)
tree-List v = search (rules, the_lemmas, length-map)

pub tree-Group : (v : Vec Value Global) → tree (Value'.Group v) ≡ (fields, values v.items)
tree-Group v = search (rules, the_lemmas)

pub tree-Choice : (z : ℤ) (part : Box Value Global)
    → tree (Value'.Choice z part) ≡ (tag z, from_list (tree part.value ∷ []))
tree-Choice z part = search (rules, the_lemmas)

pub tree-Some : (item : Box Value Global)
    → tree (Value'.Maybe (Some item)) ≡ (present, from_list (tree item.value ∷ []))
tree-Some item = search (rules, the_lemmas)

pub tree-None : tree (Value'.Maybe None) ≡ (absent, none)
tree-None = search (rules, the_lemmas)
