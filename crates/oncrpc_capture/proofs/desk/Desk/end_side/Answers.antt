use Rattle.oncrpc_capture.proofs.Going.{goes_join, goes_none}
use Rattle.oncrpc_capture.proofs.Printed.{on_ok}
use Rattle.oncrpc_capture.proofs.desk.Desk.end_side.Goals as goal

pub returns-in_default-clause-goes : goal.returns-in_default-clause-goes
returns-in_default-clause-goes g c = goes_none _ _ _

pub returns-clause-goes : goal.returns-clause-goes
returns-clause-goes g c = on_ok _
    (λ h. goes_join _ _ _ _ _ _ _ _ _ (goes_join _ _ _ _ _ _ _ _ _ c.in_ok-records.ensures.goes
    c.in_ok-read_held.ensures.goes) h)
    c.tell_left.ensures.goes
