-- What was asked over a connection, and what is printed of the answer.
use Rattle.std.proofs.Common.{◌≡◌, ap, subst}
use Rattle.rpc_message.specs.Message.{CallView}
use Rattle.rpc_message.specs.Spelling.{call}
use Rattle.rpc_engine.specs.Exchanged.{Wrote}
use Rattle.oncrpc_service.proofs.info.info_over.Goals as goal

pub returns : goal.returns
returns g c =
    let xid : c.dump_call.result.xid ≡ 1 = ap (λ (v : CallView). v.xid) c.dump_call.ensures in
    record {
      answer = c.exchange-answer.result;
      wrote = subst (λ (v : CallView). Wrote (call v) (g.W.Sink.taken c.args.writer.now)
          (g.W.Sink.taken c.exchange-answer.new.writer) c.exchange-answer.result) c.dump_call.ensures
          c.exchange-answer.ensures.exchanged.wrote;
      exchanged = rw xid at c.exchange-answer.ensures.exchanged.answer;
      unread = c.exchange-answer.ensures.counted.read;
      many = c.exchange-answer.ensures.counted.many;
      few_reads = c.exchange-answer.ensures.counted.reads;
      unsent = c.exchange-answer.ensures.counted.write;
      ends = c.end_with.ensures;
    }
