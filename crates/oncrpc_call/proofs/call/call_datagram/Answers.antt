-- What was asked by datagrams, and what is printed of the answer.
use Rattle.oncrpc_call.proofs.call.call_datagram.Goals as goal

pub returns : goal.returns
returns g c = record {
  answer = c.ask_by_datagrams-answer.result;
  asks = c.ask_by_datagrams-answer.ensures;
  ends = c.end_with.ensures;
}
