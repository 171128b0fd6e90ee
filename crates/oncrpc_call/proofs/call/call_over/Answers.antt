-- What was asked over a connection, and what is printed of the answer.
use Rattle.oncrpc_call.proofs.call.call_over.Goals as goal

pub returns : goal.returns
returns g c = record {
  answer = c.exchange-answer.result;
  wrote = c.exchange-answer.ensures.exchanged.wrote;
  exchanged = c.exchange-answer.ensures.exchanged.answer;
  exact = c.exchange-answer.ensures.exchanged.exact;
  unread = c.exchange-answer.ensures.counted.read;
  many = c.exchange-answer.ensures.counted.many;
  few_reads = c.exchange-answer.ensures.counted.reads;
  unsent = c.exchange-answer.ensures.counted.write;
  ends = c.end_with.ensures;
}
