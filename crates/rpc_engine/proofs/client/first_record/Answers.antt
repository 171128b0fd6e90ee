use Rattle.std.proofs.Common.{[], ◌∷◌, subst}
use Rattle.xdr_io.specs.Reported.{Counts}
use Rattle.xdr_io.proofs.Chained.{Counts-trans, Counts-none}
use Rattle.rpc_engine.specs.Exchanged.{most_reply}
use Rattle.rpc_engine.proofs.First.{first_found, first_failed, first_ended, reads_same}
use Rattle.rpc_engine.proofs.client.first_record.Goals as goal

pub returns-in-Ok-Some-clause-found : goal.returns-in-Ok-Some-clause-found
returns-in-Ok-Some-clause-found g c =
    first_found c.next_record.new.self.records _ _ _ c.in-Ok-Some.record
    (rw c.in-Ok-Some.field-0-is at (c.in-Ok-Some.ensures.next most_reply [] _ (c.start-records.ensures.read _)))

pub returns-in-Ok-None-clause-found : goal.returns-in-Ok-None-clause-found
returns-in-Ok-None-clause-found g c =
    first_ended _ _
    (rw c.in-Ok-None.field-0-is at (c.in-Ok-None.ensures.next most_reply [] _ (c.start-records.ensures.read _)))

pub returns-clause-found : goal.returns-clause-found
returns-clause-found g c =
    rw c.record_fault.ensures
    (first_failed _ _ c.in-Err.fault (c.in-Err.ensures.next most_reply [] _ (c.start-records.ensures.read _)))

pub returns-clause-read : goal.returns-clause-read
returns-clause-read g c =
    rw c.record_fault.ensures
    (subst (λ k. Counts k (g.R.Source.failures c.args.reader.now) (g.R.Source.failures c.next_record.new.source))
    (reads_same c.in-Err.fault) c.in-Err.ensures.read)
