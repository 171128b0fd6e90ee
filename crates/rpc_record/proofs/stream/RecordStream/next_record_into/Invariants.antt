use Rattle.std.proofs.Common.{◌≤◌, ◌-◌, ℕ, List, Option}
use Rattle.xdr_io.specs.Reported.{Counts}
use Rattle.xdr_io.specs.declared.input.TheConstants.{MOST_READS}
use Rattle.rpc_record.specs.Streamed.{HasRead, IsOpen, most_to_come, reads_of}
use Rattle.rpc_record.proofs.stream.RecordStream.next_record_into.Given as goal

abbrev pub invariant-reads : goal.invariant-reads
invariant-reads g l = record {
  opened : IsOpen l.self;
  read : (limit : ℕ) (rs : List (List ℕ)) (left : Option (List ℕ))
      → HasRead limit l.fn.self rs left (g.R.Source.left l.fn.source)
      → HasRead limit l.self rs left (g.R.Source.left l.source);
  counted : (start : Option ℕ) → Counts (reads_of l.fn.self) start (g.R.Source.reads l.fn.source)
      → Counts (reads_of l.self) start (g.R.Source.reads l.source);
  failures : Counts 0 (g.R.Source.failures l.fn.source) (g.R.Source.failures l.source);
  to_come : most_to_come l.self ≤ most_to_come l.fn.self;
}

abbrev pub decreases-reads : goal.decreases-reads
decreases-reads g l = MOST_READS - l.self.reads
