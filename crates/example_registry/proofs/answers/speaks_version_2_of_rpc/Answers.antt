use Rattle.example_registry.proofs.Messages.{mismatched}
use Rattle.example_registry.proofs.answers.speaks_version_2_of_rpc.Goals as goal

pub returns-clause-reply : goal.returns-clause-reply
returns-clause-reply g c = (mismatched c.one_answer.ensures _ _ _ _ _ c.answer.ensures).1

pub returns-clause-rows : goal.returns-clause-rows
returns-clause-rows g c = (mismatched c.one_answer.ensures _ _ _ _ _ c.answer.ensures).0
