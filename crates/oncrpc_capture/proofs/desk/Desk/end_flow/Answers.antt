use Rattle.oncrpc_capture.proofs.Going.{goes_join}
use Rattle.oncrpc_capture.proofs.Printed.{on_ok}
use Rattle.oncrpc_capture.proofs.desk.Desk.end_flow.Goals as goal

pub returns-clause-goes : goal.returns-clause-goes
returns-clause-goes g c = on_ok _
    (λ h. goes_join _ _ _ _ _ _ _ _ _ c.in_ok-end_side.ensures.goes h) c.end_side-2.ensures.goes
