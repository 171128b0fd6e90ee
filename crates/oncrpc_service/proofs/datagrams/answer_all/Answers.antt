-- Each datagram follows those before it.
use Rattle.oncrpc_service.proofs.Finishing.{begins, breaks, goes_on}
use Rattle.oncrpc_service.proofs.datagrams.answer_all.Goals as goal

pub loop-before-init : goal.loop-before-init
loop-before-init g c = begins _ _ _ _

pub returns-in-Err-clause-broken : goal.returns-in-Err-clause-broken
returns-in-Err-clause-broken g c =
    breaks _ _ _ _ _ _ _ _ _ _ c.loop-before.before _ _ c.loop-before-test.true c.loop-before.invariant
    c.in-Err.ensures.broken

pub loop-before-preserved : goal.loop-before-preserved
loop-before-preserved g c =
    goes_on _ _ _ _ _ _ _ _ _ _ c.loop-before.before c.loop-before.invariant c.in-Ok.ensures.finished
