use Rattle.example_registry.proofs.Messages.{uncredited}
use Rattle.example_registry.proofs.answers.wants_a_credential.Goals as goal

pub returns-clause-reply : goal.returns-clause-reply
returns-clause-reply g c = (uncredited c.one_answer.ensures _ _ _ _ _ c.answer.ensures).1

pub returns-clause-rows : goal.returns-clause-rows
returns-clause-rows g c = (uncredited c.one_answer.ensures _ _ _ _ _ c.answer.ensures).0
