use Rattle.example_registry.proofs.Messages.{retained}
use Rattle.example_registry.proofs.answers.keeps_the_rows_without_memory.Goals as goal

pub returns : goal.returns
returns g c = retained _ _ _ _ c.answer.result c.answer.ensures
