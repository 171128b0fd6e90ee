-- The steps that a text is read as.
use Rattle.std.specs.Prelude.{◌≡◌, ℕ, List, [], ◌∷◌, ⊤, true}
use Rattle.xdr_paths.specs.Nodes as nodes
use Rattle.xdr_paths.specs.Paths.{is_mark}
use Rattle.xdr_paths.specs.declared.steps.Step.{Step}
use Rattle.xdr_paths.specs.declared.steps.Step.TheVariants.{Field, Item}

-- the step that was read
abbrev pub step_of : Step → nodes.Step
step_of (Field name) = nodes.to_field name.now
step_of (Item index) = nodes.to_item index

-- nothing, or a mark first
abbrev pub IsEndOrMarked : List ℕ → Type 0
IsEndOrMarked [] = ⊤
IsEndOrMarked (b ∷ bs) = is_mark b ≡ true
