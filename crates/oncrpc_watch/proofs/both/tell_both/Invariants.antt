use Rattle.rpc_record.specs.Streamed.{most_to_come}
use Rattle.oncrpc_watch.specs.Private.Steps.{IsStanding, TellsBoth, reached, sunk}
use Rattle.oncrpc_watch.proofs.both.tell_both.Given as goal

abbrev pub invariant-replies : goal.invariant-replies
invariant-replies g l = record {
  of_calls : IsStanding
      (reached g.I.Source.left g.I.Source.failures g.I.Source.reads l.calls);
  of_replies : IsStanding
      (reached g.R.Source.left g.R.Source.failures g.R.Source.reads l.replies);
  tells : TellsBoth
      (reached g.I.Source.left g.I.Source.failures g.I.Source.reads l.fn.calls)
      (reached g.I.Source.left g.I.Source.failures g.I.Source.reads l.calls)
      (reached g.R.Source.left g.R.Source.failures g.R.Source.reads l.fn.replies)
      (reached g.R.Source.left g.R.Source.failures g.R.Source.reads l.replies)
      l.fn.watch l.watch (sunk g.O.Sink.taken g.O.Sink.failures l.fn.output)
      (sunk g.O.Sink.taken g.O.Sink.failures l.output);
}

abbrev pub decreases-replies : goal.decreases-replies
decreases-replies g l = most_to_come l.replies.records
