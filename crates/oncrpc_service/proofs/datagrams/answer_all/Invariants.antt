use Rattle.oncrpc_service.specs.DatagramEnds.{HasFinished, desk_of}
use Rattle.oncrpc_service.proofs.datagrams.answer_all.Given as goal

abbrev pub invariant-loop-before : goal.invariant-loop-before
invariant-loop-before g l = HasFinished {P = g.row.P.Denot} {O = g.row.O.Denot} l.before
    (desk_of g.P.DatagramPort.left g.P.DatagramPort.sent g.P.DatagramPort.receive_failures
    g.P.DatagramPort.send_failures g.O.Sink.taken g.O.Sink.failures)
    l.fn.directory l.directory l.fn.port l.port l.fn.output l.output
