use Rattle.std.proofs.Common.{List}
use Rattle.rpc_record.specs.Streamed.{most_to_come}
use Rattle.oncrpc_watch.specs.Private.Steps.{IsStanding, TellsOn, reached, sunk}
use Rattle.oncrpc_watch.proofs.stream.Stream.tell_all.Given as goal

abbrev pub invariant-records : goal.invariant-records
invariant-records g l = record {
  standing : IsStanding (reached g.R.Source.left g.R.Source.failures g.R.Source.reads l.self);
  tells : TellsOn
      (reached g.R.Source.left g.R.Source.failures g.R.Source.reads l.fn.self)
      (reached g.R.Source.left g.R.Source.failures g.R.Source.reads l.self)
      l.fn.watch l.watch (sunk g.O.Sink.taken g.O.Sink.failures l.fn.output)
      (sunk g.O.Sink.taken g.O.Sink.failures l.output);
}

abbrev pub decreases-records : goal.decreases-records
decreases-records g l = most_to_come l.self.records
