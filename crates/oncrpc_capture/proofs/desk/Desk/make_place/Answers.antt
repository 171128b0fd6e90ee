use Rattle.oncrpc_capture.proofs.Going.{goes_none}
use Rattle.oncrpc_capture.proofs.desk.Desk.make_place.Goals as goal

pub returns-then-not-is_full-clause-goes : goal.returns-then-not-is_full-clause-goes
returns-then-not-is_full-clause-goes g c = goes_none _ _ _
