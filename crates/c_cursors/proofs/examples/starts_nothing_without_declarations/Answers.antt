-- Where no declarations are held the answer is that.
use Rattle.std.proofs.Common.{ap, ◌∙◌}
use Rattle.c_values.specs.Statuses.{status_of}
use Rattle.c_cursors.proofs.examples.starts_nothing_without_declarations.Goals as goal

pub returns-clause-status : goal.returns-clause-status
returns-clause-status c =
    let k = rw c.free_declarations.ensures at c.start_cursor.ensures.answer in
    k.2 ∙ ap status_of k.1.0

pub returns-clause-held : goal.returns-clause-held
returns-clause-held c =
    let k = rw c.free_declarations.ensures at c.start_cursor.ensures.answer in
    k.1.1
