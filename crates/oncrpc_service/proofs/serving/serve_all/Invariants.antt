use Rattle.oncrpc_service.specs.ServeEnds.{HasServed}
use Rattle.oncrpc_service.proofs.serving.serve_all.Given as goal

abbrev pub invariant-loop-before : goal.invariant-loop-before
invariant-loop-before g l = HasServed {L = g.row.L.Denot} {W = g.row.L-Writer.Denot} {O = g.row.O.Denot} l.before
    (record {
      port = g.L.Listener.port_of;
      waiting = g.L.Listener.waiting;
      sent = g.L.Listener.sent;
      refused = g.L.Listener.failures;
      went = g.L.Writer.Sink.taken;
      taken = g.O.Sink.taken;
      lost = g.O.Sink.failures;
    }) l.fn.directory l.directory l.fn.listener l.listener l.fn.output l.output
