use Rattle.std.proofs.Common.{refl, ◌∙◌}
use Rattle.example_language.proofs.lookups.no_kind_of_a_constant.Goals as goal

pub returns : goal.returns
returns c = c.kind.ensures ∙ rw c.requires refl
