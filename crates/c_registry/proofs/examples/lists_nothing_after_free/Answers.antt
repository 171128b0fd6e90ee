-- A handle that was freed holds no registry.
use Rattle.std.proofs.Common.{ap, ◌∙◌}
use Rattle.c_registry.specs.Listed.{Buffers, listed_status, listed_counts}
use Rattle.c_registry.proofs.examples.lists_nothing_after_free.Goals as goal

pub returns-clause-status : goal.returns-clause-status
returns-clause-status c =
    let l = c.list_rows.ensures.answer in
    l.2 ∙ ap listed_status (rw c.free_registry.ensures at l.1).0

pub returns-clause-counts : goal.returns-clause-counts
returns-clause-counts c =
    let l = c.list_rows.ensures.answer in
    l.3 ∙ ap listed_counts (rw c.free_registry.ensures at l.1).0

pub returns-clause-buffers : goal.returns-clause-buffers
returns-clause-buffers c =
    let same = (rw c.free_registry.ensures at c.list_rows.ensures.answer.1).1 in
    (ap (λ (b : Buffers). b.rows) same, ap (λ (b : Buffers). b.bytes) same)
