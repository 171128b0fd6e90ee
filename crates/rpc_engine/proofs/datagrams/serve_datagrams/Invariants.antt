use Rattle.std.proofs.Common.{◌≤◌}
use Rattle.xdr_io.specs.Reported.{Counts}
use Rattle.rpc_engine.specs.Private.Replying.{HasServed}
use Rattle.rpc_engine.proofs.datagrams.serve_datagrams.Given as goal

abbrev pub invariant-loop-done : goal.invariant-loop-done
invariant-loop-done g l = record {
  served : HasServed l.done l.replies l.fn.directory l.directory (g.P.DatagramPort.left l.fn.port)
      (g.P.DatagramPort.left l.port) (g.P.DatagramPort.sent l.fn.port) (g.P.DatagramPort.sent l.port);
  few : l.replies ≤ l.done;
  receives_failed : Counts 0 (g.P.DatagramPort.receive_failures l.fn.port) (g.P.DatagramPort.receive_failures l.port);
  sends_failed : Counts 0 (g.P.DatagramPort.send_failures l.fn.port) (g.P.DatagramPort.send_failures l.port);
}
