use Rattle.std.proofs.Common.{◌≡◌, ℕ, List, [], length}
use Rattle.xdr_io.specs.Reported.{Counts}
use Rattle.rpc_engine.specs.Ports.{Sends}
use Rattle.oncrpc_call.specs.Datagrams.{PassesOver}
use Rattle.oncrpc_call.proofs.datagrams.receive_reply.Given as goal

abbrev pub invariant-passing : goal.invariant-passing
invariant-passing g l = record {
  passed : (ps : List (List ℕ)) × PassesOver l.xid (g.P.DatagramPort.left l.fn.port) (g.P.DatagramPort.left l.port) ps
      × (length ps ≡ l._passed);
  unsent : Sends (g.P.DatagramPort.sent l.fn.port) (g.P.DatagramPort.sent l.port) [];
  read : Counts 0 (g.P.DatagramPort.receive_failures l.fn.port) (g.P.DatagramPort.receive_failures l.port);
  write : Counts 0 (g.P.DatagramPort.send_failures l.fn.port) (g.P.DatagramPort.send_failures l.port);
}
