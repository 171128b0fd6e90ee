use Rattle.oncrpc_capture.proofs.Going.{goes_join, goes_none}
use Rattle.std.proofs.Common.{refl, ◌∙◌}
use Rattle.oncrpc_capture.proofs.desk.Desk.end.Goals as goal

pub flows-init : goal.flows-init
flows-init g c = record { goes = goes_none _ _ _; ports = refl; frame = refl }

pub flows-preserved : goal.flows-preserved
flows-preserved g c = record {
  goes = goes_join _ _ _ _ _ _ _ _ _ c.flows.invariant.goes c.in_ok-end_flow.ensures.goes;
  ports = c.end_flow.ensures.same.0 ∙ c.flows.invariant.ports;
  frame = c.end_flow.ensures.same.1 ∙ c.flows.invariant.frame;
}
