use Rattle.std.proofs.Common.{◌≡◌, ℕ, List}
use Rattle.std.specs.Io.KnownBytes.{Consumes}
use Rattle.oncrpc_capture.specs.Private.Steps.{IsThrough}
use Rattle.oncrpc_capture.proofs.desk.Desk.read.Given as goal

abbrev pub invariant-reads : goal.invariant-reads
invariant-reads g l = record {
  through : (input : List ℕ) × Consumes (g.I.Source.left l.fn.source) (g.I.Source.left l.source) input
      × IsThrough l.reader input l.fn.self.ports.now l.self.frame l.self.flows l.fn.self.printing l.self.printing
      (g.O.Sink.taken l.fn.output) (g.O.Sink.taken l.output);
  ports : l.self.ports ≡ l.fn.self.ports;
}
