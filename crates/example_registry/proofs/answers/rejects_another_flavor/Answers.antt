use Rattle.example_registry.proofs.Messages.{rejected}
use Rattle.example_registry.proofs.answers.rejects_another_flavor.Goals as goal

pub returns-clause-reply : goal.returns-clause-reply
returns-clause-reply g c = (rejected c.one_answer.ensures _ _ _ _ _ c.answer.ensures).1

pub returns-clause-rows : goal.returns-clause-rows
returns-clause-rows g c = (rejected c.one_answer.ensures _ _ _ _ _ c.answer.ensures).0
