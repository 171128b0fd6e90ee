use Rattle.std.proofs.Common.{◌≡◌, ℕ, true, List, ◌++◌}
use Rattle.oncrpc_capture.specs.Private.Steps.{Feeds}
use Rattle.oncrpc_capture.proofs.desk.Desk.feed.Given as goal

abbrev pub invariant-packets : goal.invariant-packets
invariant-packets g l = record {
  through : (done : List ℕ) × (l.fn.piece ≡ done ++ l.rest)
      × Feeds true l.fn.self.printing l.self.printing l.fn.self.ports.now l.fn.self.frame l.self.frame
      l.fn.self.flows l.self.flows l.fn.reader l.reader done (g.O.Sink.taken l.fn.output) (g.O.Sink.taken l.output);
  ports : l.self.ports ≡ l.fn.self.ports;
}
