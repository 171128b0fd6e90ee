use Rattle.rpc_record.specs.Streamed.{most_to_come}
use Rattle.oncrpc_watch.specs.Private.Steps.{IsStanding, TellsOn, reached, sunk}
use Rattle.oncrpc_watch.proofs.both.read_on.Given as goal

abbrev pub invariant-calls : goal.invariant-calls
invariant-calls g l = record {
  standing : IsStanding
      (reached g.I.Source.left g.I.Source.failures g.I.Source.reads l.calls);
  tells : TellsOn
      (reached g.I.Source.left g.I.Source.failures g.I.Source.reads l.fn.calls)
      (reached g.I.Source.left g.I.Source.failures g.I.Source.reads l.calls)
      l.fn.watch l.watch (sunk g.O.Sink.taken g.O.Sink.failures l.fn.output)
      (sunk g.O.Sink.taken g.O.Sink.failures l.output);
}

abbrev pub decreases-calls : goal.decreases-calls
decreases-calls g l = most_to_come l.calls.records
