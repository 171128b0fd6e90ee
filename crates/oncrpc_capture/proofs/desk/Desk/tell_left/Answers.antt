use Rattle.oncrpc_capture.proofs.Followed.{keep_join}
use Rattle.oncrpc_capture.proofs.Going.{goes_heard, goes_kept, heard_more}
use Rattle.oncrpc_capture.proofs.Printed.{on_ok}
use Rattle.oncrpc_capture.proofs.desk.Desk.tell_left.Goals as goal

pub returns-in_default-clause-goes : goal.returns-in_default-clause-goes
returns-in_default-clause-goes g c = goes_kept _ _ _ _ c.end.ensures

pub returns-then-not-left-clause-goes : goal.returns-then-not-left-clause-goes
returns-then-not-left-clause-goes g c =
    goes_kept _ _ _ _ (keep_join _ _ _ c.end.ensures c.count.ensures)

pub returns-clause-goes : goal.returns-clause-goes
returns-clause-goes g c = on_ok _
    (λ h. goes_heard _ _ _ _ _ _ (keep_join _ _ _ c.end.ensures c.count.ensures)
    (heard_more _ _ _ _ _ _ c.in_ok-note_some.ensures h)) c.note_some-2.ensures
