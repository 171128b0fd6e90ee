use Rattle.std.proofs.Common.{◌≡◌}
use Rattle.oncrpc_capture.specs.Private.Steps.{Goes}
use Rattle.oncrpc_capture.proofs.desk.Desk.records.Given as goal

abbrev pub invariant-steps : goal.invariant-steps
invariant-steps g l = record {
  goes : Goes l.fn.self.flows l.self.flows l.fn.self.printing l.self.printing (g.O.Sink.taken l.fn.output)
      (g.O.Sink.taken l.output);
  ports : l.self.ports ≡ l.fn.self.ports;
  frame : l.self.frame ≡ l.fn.self.frame;
}
