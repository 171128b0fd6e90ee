use Rattle.example_registry.proofs.Messages.{represents, nothing_added}
use Rattle.example_registry.proofs.answers.keeps_what_stands_before.Goals as goal

pub returns-clause-before : goal.returns-clause-before
returns-clause-before g c = represents _ _ _ _ _ _ c.append_answer.result c.append_answer.ensures

pub returns-clause-refused : goal.returns-clause-refused
returns-clause-refused g c = nothing_added _ _ _ _ _ _ c.append_answer.result c.append_answer.ensures
