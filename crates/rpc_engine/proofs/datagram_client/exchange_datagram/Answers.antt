use Rattle.std.proofs.Common.{take, ◌∙◌}
use Rattle.rpc_engine.proofs.Exchanges.{exchanged_datagram}
use Rattle.rpc_engine.proofs.datagram_client.exchange_datagram.Goals as goal

pub returns-in-Ok-receive-clause-answer : goal.returns-in-Ok-receive-clause-answer
returns-in-Ok-receive-clause-answer g c =
    exchanged_datagram c.args.call.now.xid _ c.deref.result.now (take c.in-Ok-receive.n c.receive.new.array) _ _ _ _ _ _
    (c.deref.ensures.value ∙ c.in-Ok.ensures.parts) c.in-Ok-send.ensures.sent c.in-Ok-send.ensures.unreceived
    c.in-Ok-receive.ensures.received c.in-Ok-receive.ensures.unsent c.reply_to.result c.reply_to.ensures
