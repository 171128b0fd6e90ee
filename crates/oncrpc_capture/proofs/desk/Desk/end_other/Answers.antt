use Rattle.oncrpc_capture.proofs.Going.{goes_none}
use Rattle.oncrpc_capture.proofs.desk.Desk.end_other.Goals as goal

pub returns-then-not-is_other-clause-goes : goal.returns-then-not-is_other-clause-goes
returns-then-not-is_other-clause-goes g c = goes_none _ _ _
