-- The source holds the bytes, and the sink holds nothing at first and hands out what it took.
use Rattle.std.proofs.Common.{Some}
use Rattle.oncrpc_tasks.proofs.records.mark_gathered.Goals as goal

pub returns-in-Ok-clause-marks : goal.returns-in-Ok-clause-marks
returns-in-Ok-clause-marks c =
    let marks = rw (c.new-source.ensures.left, c.new-gathered.ensures) at c.in-Ok.ensures.marks in
    (Some c.mark_bytes.new.input.rest.now, rw (← c.into_bytes.ensures) marks)
