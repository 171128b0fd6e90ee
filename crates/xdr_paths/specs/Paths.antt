-- The text of a path, and the part of a value's layout that it names.
use Rattle.std.specs.Prelude.{◌≡◌, ◌≢◌, ℕ, ◌<◌, ◌^◌, List, [], ◌∷◌, ◌++◌, decimal, Bool, false, nat_eq, ◌||◌}
use Rattle.std.specs.List.{AllByRecursion, flat_map}
use Rattle.xdr_types.specs.Kinds.{KindView}
use Rattle.xdr_types.specs.Layout.{Entry}
use Rattle.xdr_types.specs.Tree.{Tree}
use Rattle.xdr_paths.specs.Nodes.{Step, to_field, to_item, LeadTo, settled, root}

-- the bytes that part a path: a dot and the two brackets
abbrev pub is_mark : ℕ → Bool
is_mark b = nat_eq b 46 || (nat_eq b 91 || nat_eq b 93)

-- no byte is one of these
abbrev pub HasNoMark : List ℕ → Type 0
HasNoMark text = AllByRecursion (λ (b : ℕ). is_mark b ≡ false) text

-- a name is not empty and has no mark; an index is below 2^32, as each count of items (RFC 4506 section 4.13)
abbrev pub IsStep : Step → Type 0
IsStep (to_field name) = (name ≢ []) × HasNoMark name
IsStep (to_item index) = index < 2 ^ 32

-- a step behind others: a dot and the name, or the index in brackets
abbrev pub step_text : Step → List ℕ
step_text (to_field name) = 46 ∷ name
step_text (to_item index) = 91 ∷ (decimal index ++ 93 ∷ [])

-- steps behind others
abbrev pub steps_text : List Step → List ℕ
steps_text steps = flat_map step_text steps

-- the first step of a path: a name without a dot, or an index
abbrev pub first_text : Step → List ℕ
first_text (to_field name) = name
first_text (to_item index) = step_text (to_item index)

-- the text of a path: its first step, and those behind it; none for the value itself
abbrev pub path_text : List Step → List ℕ
path_text [] = []
path_text (step ∷ steps) = first_text step ++ steps_text steps

-- the text is that of a path with these steps
abbrev pub IsPath : (text : List ℕ) → List Step → Type 0
IsPath text steps = AllByRecursion IsStep steps × (text ≡ path_text steps)

-- the path with this text names this part of the layout of a value of the kind
abbrev pub Names : List KindView → (kind : ℕ) → Tree → (text : List ℕ) → Entry → Type 0
Names kinds kind v text e =
    (steps : List Step) × IsPath text steps × LeadTo kinds (settled kinds (root kind v)) steps e
