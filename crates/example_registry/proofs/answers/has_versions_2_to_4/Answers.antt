use Rattle.example_registry.proofs.Messages.{versions}
use Rattle.example_registry.proofs.answers.has_versions_2_to_4.Goals as goal

pub returns-clause-reply : goal.returns-clause-reply
returns-clause-reply g c = (versions c.one_answer.ensures _ _ _ _ _ c.answer.ensures).1

pub returns-clause-rows : goal.returns-clause-rows
returns-clause-rows g c = (versions c.one_answer.ensures _ _ _ _ _ c.answer.ensures).0
