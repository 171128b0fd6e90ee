-- The parts that the nodes at work have not begun.
use Rattle.std.specs.Prelude.{◌≡◌, ℕ, ◌+◌, List, [], ◌∷◌, length, map, replicate}
use Rattle.xdr_types.specs.Kinds.{Part}
use Rattle.xdr_types.specs.KindViews.{part_of_member}
use Rattle.xdr_types.specs.Fits.{item_part}
use Rattle.xdr_laws.specs.Owed.{Due, Frame as Owes}
use Rattle.xdr_stream.specs.declared.machine.frame.Frame.{Frame}
use Rattle.xdr_stream.specs.declared.machine.frame.Frame.TheVariants.{Fields, Items, Arm}

-- the parts that a node at work has not begun
abbrev pub left_of : Frame → List Part
left_of (Fields fields) = map part_of_member fields.now
left_of (Items item left) = replicate left (item_part item.place)
left_of (Arm member) = part_of_member member.now ∷ []

-- all but the first
abbrev pub rest_of : List Part → List Part
rest_of [] = []
rest_of (p ∷ ps) = ps

-- a part of this kind comes first
abbrev pub Begins : List Part → (place : ℕ) → Type 0
Begins ps place = (p : Part) × (ps ≡ p ∷ rest_of ps) × (p.kind ≡ place)

-- what stands in a list of parents, root first, over those that stand outside it
abbrev pub onto : List (List Part) → List Frame → List (List Part)
onto outer [] = outer
onto outer (f ∷ fs) = onto (left_of f ∷ outer) fs

-- the parts that the nodes at work have not begun, the innermost first
abbrev pub stack_of : Frame → List Frame → List (List Part)
stack_of work parents = left_of work ∷ onto [] parents

-- what they owe, the root at depth 1
abbrev pub dues : List (List Part) → List Due
dues [] = []
dues (ps ∷ fs) = Owes (length fs + 1) ps ∷ dues fs
