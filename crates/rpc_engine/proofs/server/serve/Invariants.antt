use Rattle.std.proofs.Common.{ℕ, List, []}
use Rattle.xdr_io.specs.Reported.{Counts}
use Rattle.registry_answer.specs.Views.{netid_of}
use Rattle.rpc_record.specs.Streamed.{HasRead, most_to_come, reads_of}
use Rattle.rpc_engine.specs.declared.session.Session.{Session}
use Rattle.rpc_engine.specs.Served.{most_record}
use Rattle.rpc_engine.specs.Private.Serving.{HasCounted, Does}
use Rattle.rpc_engine.proofs.server.serve.Given as goal

abbrev pub invariant-records : goal.invariant-records
invariant-records g l = record {
  rs : List (List ℕ);
  start : Session;
  begun : HasCounted start [] [];
  read : HasRead most_record l.records rs (g.R.Source.left l.fn.reader) (g.R.Source.left l.reader);
  does : Does (netid_of l.fn.transport) l.fn.directory l.directory start l.session rs (g.W.Sink.taken l.fn.writer)
      (g.W.Sink.taken l.writer);
  reads : Counts (reads_of l.records) (g.R.Source.reads l.fn.reader) (g.R.Source.reads l.reader);
  reads_failed : Counts 0 (g.R.Source.failures l.fn.reader) (g.R.Source.failures l.reader);
  writes_failed : Counts 0 (g.W.Sink.failures l.fn.writer) (g.W.Sink.failures l.writer);
}

abbrev pub decreases-records : goal.decreases-records
decreases-records g l = most_to_come l.records
