use Rattle.oncrpc_capture.proofs.Going.{goes_join, goes_kept}
use Rattle.oncrpc_capture.proofs.desk.Desk.begin.Goals as goal

pub returns-clause-goes : goal.returns-clause-goes
returns-clause-goes g c =
    goes_join _ _ _ _ _ _ _ _ _ c.in_ok-end_other.ensures.goes (goes_kept _ _ _ _ c.note.ensures)
