use Rattle.std.proofs.Common.{refl, ◌∙◌}
use Rattle.example_language.proofs.lookups.kind_of_a_type.Goals as goal

pub returns : goal.returns
returns c = c.kind.ensures ∙ rw c.requires refl
