use Rattle.registry_callers.proofs.Some.{some_answer_from}
use Rattle.registry_callers.proofs.laws.each_caller_has_an_answer.Goals as goal

pub returns : goal.returns
returns c = some_answer_from c.each_record_has_an_answer.ensures
