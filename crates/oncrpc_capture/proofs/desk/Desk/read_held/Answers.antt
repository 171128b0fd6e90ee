use Rattle.oncrpc_capture.proofs.Going.{goes_join, goes_none}
use Rattle.std.proofs.Common.{refl, ◌∙◌}
use Rattle.oncrpc_capture.proofs.desk.Desk.read_held.Goals as goal

pub holes-init : goal.holes-init
holes-init g c = record { goes = goes_none _ _ _; ports = refl; frame = refl }

pub holes-preserved : goal.holes-preserved
holes-preserved g c = record {
  goes = goes_join _ _ _ _ _ _ _ _ _ c.holes.invariant.goes c.in_ok-go_behind.ensures.goes;
  ports = c.go_behind.ensures.same.0 ∙ c.holes.invariant.ports;
  frame = c.go_behind.ensures.same.1 ∙ c.holes.invariant.frame;
}

pub returns-then-not-branch-clause-goes : goal.returns-then-not-branch-clause-goes
returns-then-not-branch-clause-goes g c =
    goes_join _ _ _ _ _ _ _ _ _ c.holes.invariant.goes c.in_ok-go_behind.ensures.goes
