use Rattle.example_registry.proofs.Messages.{unavailable}
use Rattle.example_registry.proofs.answers.looks_at_the_program_first.Goals as goal

pub returns-clause-reply : goal.returns-clause-reply
returns-clause-reply g c = (unavailable c.one_answer.ensures _ _ _ _ _ c.answer.ensures).1

pub returns-clause-rows : goal.returns-clause-rows
returns-clause-rows g c = (unavailable c.one_answer.ensures _ _ _ _ _ c.answer.ensures).0
