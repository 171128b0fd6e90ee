-- Each connection follows those before it.
use Rattle.oncrpc_service.specs.Connections.{listening_line}
use Rattle.oncrpc_service.proofs.Following.{begins, begins_not, goes_on, stops_on, listening_is_some}
use Rattle.oncrpc_service.proofs.serving.serve_all.Goals as goal

pub returns-in-Err-clause-stopped : goal.returns-in-Err-clause-stopped
returns-in-Err-clause-stopped g c =
    let line = rw (c.port.ensures, c.in-Err.is) at (c.print.ensures (listening_line c.port.result)
    c.listening_line.ensures (listening_is_some c.port.result)) in
    begins_not _ _ _ _ _ _ _ line

pub loop-before-init : goal.loop-before-init
loop-before-init g c =
    let line = rw (c.port.ensures, c.in-Ok.is) at (c.print.ensures (listening_line c.port.result)
    c.listening_line.ensures (listening_is_some c.port.result)) in
    begins _ _ _ _ _ line.0 line.1

pub returns-in-Err-serve_one-clause-stopped : goal.returns-in-Err-serve_one-clause-stopped
returns-in-Err-serve_one-clause-stopped g c =
    stops_on _ _ _ _ _ _ _ _ _ _ c.loop-before.before _ _ c.loop-before-test.true c.loop-before.invariant
    c.in-Err-serve_one.ensures.stopped

pub loop-before-preserved : goal.loop-before-preserved
loop-before-preserved g c =
    goes_on _ _ _ _ _ _ _ _ _ _ c.loop-before.before c.loop-before.invariant c.in-Ok-serve_one.ensures.served
