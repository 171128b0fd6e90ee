use Rattle.std.proofs.Common.{◌≡◌, ℕ, ◌+◌, ◌%◌, ◌^◌, drop}
use Rattle.capture_packets.specs.View.{segment_view}
use Rattle.capture_records.specs.Carried.{bytes_of, first_of}
use Rattle.oncrpc_capture.specs.Private.Steps.{GoesOn}
use Rattle.oncrpc_capture.proofs.desk.Desk.take.Given as goal

abbrev pub invariant-pieces : goal.invariant-pieces
invariant-pieces g l = record {
  goes : GoesOn (segment_view l.segment) l.fn.self.flows l.self.flows l.fn.self.printing l.self.printing
      (g.O.Sink.taken l.fn.output) (g.O.Sink.taken l.output);
  at : (before : ℕ) × (l.sequence ≡ (first_of (segment_view l.segment) + before) % 2 ^ 32)
      × (l.rest ≡ drop before (bytes_of (segment_view l.segment)));
  ports : l.self.ports ≡ l.fn.self.ports;
  frame : l.self.frame ≡ l.fn.self.frame;
}
