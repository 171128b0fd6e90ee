use Rattle.oncrpc_capture.proofs.Followed.{find_keeps}
use Rattle.oncrpc_capture.proofs.Going.{goes_as, goes_found, goes_join, goes_kept, goes_none}
use Rattle.std.proofs.Common.{refl, ◌∙◌}
use Rattle.oncrpc_capture.proofs.desk.Desk.records.Goals as goal

pub steps-init : goal.steps-init
steps-init g c = record { goes = goes_none _ _ _; ports = refl; frame = refl }

pub steps-preserved : goal.steps-preserved
steps-preserved g c = record {
  goes = goes_join _ _ _ _ _ _ _ _ _ c.steps.invariant.goes
      (goes_as _ _ _ _ _ _ _ c.print_found.ensures.flows
      (goes_found _ _ _ _ _ _ _ _ (rw c.in-Some.is at c.in_ok-found.ensures)
      c.in_ok-print_found.ensures.prints));
  ports = c.print_found.ensures.same.0 ∙ c.steps.invariant.ports;
  frame = c.print_found.ensures.same.1 ∙ c.steps.invariant.frame;
}

pub returns-in_default-clause-goes : goal.returns-in_default-clause-goes
returns-in_default-clause-goes g c =
    goes_join _ _ _ _ _ _ _ _ _ c.steps.invariant.goes
    (goes_kept _ _ _ _ (find_keeps _ _ _ _ c.in_ok-found.ensures))
