use Rattle.oncrpc_capture.proofs.Going.{goes_join, goes_kept}
use Rattle.oncrpc_capture.proofs.desk.Desk.go_behind.Goals as goal

pub returns-then-not-branch-clause-goes : goal.returns-then-not-branch-clause-goes
returns-then-not-branch-clause-goes g c = goes_kept _ _ _ _ c.in_ok-go_behind.ensures

pub returns-clause-goes : goal.returns-clause-goes
returns-clause-goes g c =
    goes_join _ _ _ _ _ _ _ _ _ (goes_kept _ _ _ _ c.in_ok-go_behind.ensures) c.in_ok-records.ensures.goes
