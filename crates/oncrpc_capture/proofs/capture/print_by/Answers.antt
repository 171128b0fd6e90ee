use Rattle.oncrpc_capture.proofs.Closed.{packets_in}
use Rattle.oncrpc_capture.proofs.capture.print_by.Goals as goal

pub returns-in_ok-status-in-None-clause-prints : goal.returns-in_ok-status-in-None-clause-prints
returns-in_ok-status-in-None-clause-prints g c = rw c.in-None.is (record {
  heads = c.in_ok-heads.heads;
  are_heads = c.in_ok-heads.ensures;
  prints = packets_in _ _ _ _ _ _ _ _ c.terms_by-terms.ensures c.in_ok-status-in-None.ensures.prints;
})

pub returns-in_ok-printed-in-Some-clause-prints : goal.returns-in_ok-printed-in-Some-clause-prints
returns-in_ok-printed-in-Some-clause-prints g c = rw c.in-Some.is (record {
  heads = c.in_ok-heads.heads;
  are_heads = c.in_ok-heads.ensures;
  prints = packets_in _ _ _ _ _ _ _ _ c.terms_by-terms.ensures c.in_ok-printed-in-Some.ensures.prints;
})
