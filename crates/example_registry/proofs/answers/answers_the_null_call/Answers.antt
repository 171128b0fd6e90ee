use Rattle.registry_dumps.specs.Dir.{dir_kinds}
use Rattle.example_registry.proofs.Messages.{done}
use Rattle.example_registry.proofs.answers.answers_the_null_call.Goals as goal

pub returns-clause-reply : goal.returns-clause-reply
returns-clause-reply g c = (done c.one_answer.ensures _ _ _ _ _ (c.whole_exactly.ensures dir_kinds) c.answer.ensures).1

pub returns-clause-rows : goal.returns-clause-rows
returns-clause-rows g c = (done c.one_answer.ensures _ _ _ _ _ (c.whole_exactly.ensures dir_kinds) c.answer.ensures).0
