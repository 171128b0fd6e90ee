use Rattle.oncrpc_capture.proofs.Going.{goes_join, goes_kept, goes_none}
use Rattle.oncrpc_capture.proofs.desk.Desk.flow_of.Goals as goal

pub returns-in-Some-clause-goes : goal.returns-in-Some-clause-goes
returns-in-Some-clause-goes g c = goes_none _ _ _

pub returns-clause-goes : goal.returns-clause-goes
returns-clause-goes g c =
    goes_join _ _ _ _ _ _ _ _ _ c.in_ok-make_place.ensures.goes (goes_kept _ _ _ _ c.in_ok-place.ensures)
