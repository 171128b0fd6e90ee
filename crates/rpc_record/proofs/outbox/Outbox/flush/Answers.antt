use Rattle.rpc_record.proofs.Sending.{SendingCut-waiting}
use Rattle.rpc_record.proofs.outbox.Outbox.flush.Goals as goal

pub returns-in-Err-clause-cut : goal.returns-in-Err-clause-cut
returns-in-Err-clause-cut g c =
    SendingCut-waiting c.args.self.now _ _ c.in-Err.cut.written c.saturating_add.result c.saturating_add.ensures
    c.in-Err.ensures.cut
