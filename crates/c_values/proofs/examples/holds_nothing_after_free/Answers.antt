-- Where nothing is held the answer is that.
use Rattle.std.proofs.Common.{ap, ◌∙◌}
use Rattle.c_values.specs.Statuses.{status_of, outcome_of}
use Rattle.c_values.proofs.examples.holds_nothing_after_free.Goals as goal

pub returns-clause-status : goal.returns-clause-status
returns-clause-status c =
    let k = rw c.free_declarations.ensures at c.check_by_declarations.ensures.answer in
    k.2 ∙ ap status_of k.1

pub returns-clause-outcome : goal.returns-clause-outcome
returns-clause-outcome c =
    let k = rw c.free_declarations.ensures at c.check_by_declarations.ensures.answer in
    k.3 ∙ ap outcome_of k.1
