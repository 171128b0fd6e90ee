use Rattle.registry_callers.proofs.Same.{one_answer_from}
use Rattle.registry_callers.proofs.laws.one_answer_from.Goals as goal

pub returns : goal.returns
returns c = one_answer_from c.call_bytes_are_exact.ensures c.one_answer.ensures c.five_cases.ensures.exclusive
