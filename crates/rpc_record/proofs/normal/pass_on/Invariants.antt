use Rattle.std.proofs.Common.{ℕ, List}
use Rattle.xdr_io.specs.Reported.{Counts}
use Rattle.rpc_record.specs.Streamed.{HasRead, most_to_come, reads_of}
use Rattle.rpc_record.proofs.Gathering.{Handed}
use Rattle.rpc_record.proofs.normal.pass_on.Given as goal

abbrev pub invariant-records : goal.invariant-records
invariant-records g l = record {
  rs : List (List ℕ);
  read : HasRead l.fn.records.records.limit l.records rs (g.R.Source.left l.fn.reader) (g.R.Source.left l.reader);
  handed : Handed rs l.outbox (g.W.Sink.taken l.fn.writer) (g.W.Sink.taken l.writer);
  reads : Counts (reads_of l.records) (g.R.Source.reads l.fn.reader) (g.R.Source.reads l.reader);
  reads_failed : Counts 0 (g.R.Source.failures l.fn.reader) (g.R.Source.failures l.reader);
  writes_failed : Counts 0 (g.W.Sink.failures l.fn.writer) (g.W.Sink.failures l.writer);
}

abbrev pub decreases-records : goal.decreases-records
decreases-records g l = most_to_come l.records
