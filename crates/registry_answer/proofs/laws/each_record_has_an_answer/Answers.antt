use Rattle.registry_answer.proofs.Some.{some_answer}
use Rattle.registry_answer.proofs.laws.each_record_has_an_answer.Goals as goal

pub returns : goal.returns
returns c = some_answer c.five_cases.ensures.covering
