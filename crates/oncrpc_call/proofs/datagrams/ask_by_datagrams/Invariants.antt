use Rattle.std.proofs.Common.{ℕ, ◌*◌, ◌≤◌, List, length, replicate}
use Rattle.xdr_io.specs.Reported.{Counts}
use Rattle.rpc_message.specs.Spelling.{call}
use Rattle.rpc_message.specs.View.{call_view}
use Rattle.rpc_engine.specs.Ports.{Sends}
use Rattle.oncrpc_call.specs.Datagrams.{PassesOver, Unanswered, most_passed, report_of}
use Rattle.oncrpc_call.proofs.datagrams.ask_by_datagrams.Given as goal

abbrev pub invariant-asking : goal.invariant-asking
invariant-asking g l = record {
  passed : (ps : List (List ℕ)) × PassesOver l.call.xid (g.P.DatagramPort.left l.fn.port)
      (g.P.DatagramPort.left l.port) ps × (length ps ≤ l._sent * most_passed);
  each : Unanswered (report_of g.P.DatagramPort.left g.P.DatagramPort.sent g.P.DatagramPort.receive_failures
      g.P.DatagramPort.send_failures) l.call.xid (call (call_view l.call)) l._sent l.fn.port l.port;
  sent : Sends (g.P.DatagramPort.sent l.fn.port) (g.P.DatagramPort.sent l.port)
      (replicate l._sent (call (call_view l.call)));
  unreceived : Counts l._sent (g.P.DatagramPort.receive_failures l.fn.port)
      (g.P.DatagramPort.receive_failures l.port);
  unsent : Counts 0 (g.P.DatagramPort.send_failures l.fn.port) (g.P.DatagramPort.send_failures l.port);
}
