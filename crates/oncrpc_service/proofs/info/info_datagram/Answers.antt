-- What was asked by a datagram, and what is printed of the answer.
use Rattle.std.proofs.Common.{subst}
use Rattle.rpc_message.specs.Message.{CallView}
use Rattle.rpc_message.specs.Spelling.{call}
use Rattle.rpc_engine.specs.DatagramExchange.{ExchangesDatagram}
use Rattle.oncrpc_service.proofs.info.info_datagram.Goals as goal

pub returns : goal.returns
returns g c = record {
  answer = c.exchange_datagram-answer.result;
  exchanged = subst (λ (v : CallView). ExchangesDatagram v.xid (call v)
      (g.P.DatagramPort.left c.args.port.now) (g.P.DatagramPort.left c.exchange_datagram-answer.new.port)
      (g.P.DatagramPort.sent c.args.port.now) (g.P.DatagramPort.sent c.exchange_datagram-answer.new.port)
      c.exchange_datagram-answer.result) c.dump_call.ensures c.exchange_datagram-answer.ensures.answer;
  unreceived = c.exchange_datagram-answer.ensures.read;
  unsent = c.exchange_datagram-answer.ensures.write;
  ends = c.end_with.ensures;
}
