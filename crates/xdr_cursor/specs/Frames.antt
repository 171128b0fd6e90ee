-- The parts that nodes at work have not begun, by the kinds of a schema.
use Rattle.std.specs.Prelude.{List, [], ◌∷◌, drop, replicate}
use Rattle.xdr_types.specs.Kinds.{KindView, Part, kind_at}
use Rattle.xdr_types.specs.Tree as value
use Rattle.xdr_types.specs.Fits.{parts, part_in, optional_part, item_part}
use Rattle.xdr_cursor.specs.declared.frame.Frame.{Frame}
use Rattle.xdr_cursor.specs.declared.frame.Frame.TheVariants.{Fields, Items, Arm}

-- the parts that a node at work has not begun (RFC 4506 sections 4.12 to 4.15, 4.19)
abbrev pub left_in : List KindView → Frame → List Part
left_in kinds (Fields kind from) = drop from (parts (kind_at kinds kind.place) value.fields)
left_in kinds (Items item left) = replicate left (item_part item.place)
left_in kinds (Arm kind number) = optional_part (part_in (kind_at kinds kind.place) number)

-- what stands in a list of parents, root first, over those that stand outside it
abbrev pub onto : List KindView → List (List Part) → List Frame → List (List Part)
onto kinds outer [] = outer
onto kinds outer (f ∷ fs) = onto kinds (left_in kinds f ∷ outer) fs

-- the parts that the nodes at work have not begun, the innermost first
abbrev pub stack_in : List KindView → Frame → List Frame → List (List Part)
stack_in kinds work parents = left_in kinds work ∷ onto kinds [] parents
