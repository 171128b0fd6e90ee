use Rattle.capture_records.specs.declared.told.Told.TheVariants.{Dropped}
use Rattle.oncrpc_capture.proofs.Followed.{keep_join}
use Rattle.oncrpc_capture.proofs.Going.{goes_heard, goes_kept, heard_note}
use Rattle.oncrpc_capture.proofs.Printed.{on_ok}
use Rattle.oncrpc_capture.proofs.desk.Desk.hold.Goals as goal

pub returns-then-held-le-MOST_TOTAL-clause-goes : goal.returns-then-held-le-MOST_TOTAL-clause-goes
returns-then-held-le-MOST_TOTAL-clause-goes g c = goes_kept _ _ _ _ c.count.ensures

pub returns-in_default-clause-goes : goal.returns-in_default-clause-goes
returns-in_default-clause-goes g c = goes_kept _ _ _ _ (keep_join _ _ _ c.count.ensures c.end.ensures)

pub returns-then-left-clause-goes : goal.returns-then-left-clause-goes
returns-then-left-clause-goes g c = on_ok _
    (λ h. goes_heard _ _ _ _ _ _
    (keep_join _ _ _ (keep_join _ _ _ c.count.ensures c.end.ensures) c.count-2.ensures)
    (heard_note _ _ c.args.seen Dropped _ _ _ h)) c.note.ensures

pub returns-else-left-clause-goes : goal.returns-else-left-clause-goes
returns-else-left-clause-goes g c = goes_kept _ _ _ _
    (keep_join _ _ _ (keep_join _ _ _ c.count.ensures c.end.ensures) c.count-2.ensures)
