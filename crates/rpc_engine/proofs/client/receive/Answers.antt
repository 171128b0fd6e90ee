use Rattle.std.proofs.Common.{subst}
use Rattle.xdr_io.specs.Reported.{Counts}
use Rattle.rpc_engine.proofs.First.{exchanged_ok, exchanged_err, unread_ok}
use Rattle.rpc_engine.proofs.Outcomes.{exact_answer}
use Rattle.rpc_engine.proofs.client.receive.Goals as goal

pub returns-in-Ok-clause-exact : goal.returns-in-Ok-clause-exact
returns-in-Ok-clause-exact g c =
    exact_answer c.too_long_ends_the_stream.ensures.ends c.args.xid _ _ c.reply_to.result
    (exchanged_ok c.args.xid _ _ c.in-Ok.record _ c.reply_to.result c.deref.ensures.value c.in-Ok.ensures.found
    c.reply_to.ensures)

pub returns-in-Ok-clause-read : goal.returns-in-Ok-clause-read
returns-in-Ok-clause-read g c =
    subst (λ k. Counts k (g.R.Source.failures c.args.reader.now) (g.R.Source.failures c.first_record.new.reader))
    (unread_ok c.args.xid _ c.reply_to.result c.reply_to.ensures) c.in-Ok.ensures.read

pub returns-in-Err-clause-exact : goal.returns-in-Err-clause-exact
returns-in-Err-clause-exact g c =
    exact_answer c.too_long_ends_the_stream.ensures.ends c.args.xid _ _ _
    (exchanged_err c.args.xid _ _ c.in-Err.fault c.in-Err.ensures.found)
