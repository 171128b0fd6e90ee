-- The value that is read is the one that the words ask for.
use Rattle.std.proofs.Common.{inl}
use Rattle.oncrpc_tasks.proofs.task.value_over.Goals as goal

pub returns-clause-ends : goal.returns-clause-ends
returns-clause-ends g c =
    let asks = c.in-Ok.ensures.asks in
    inl (record {
      texts = asks.texts;
      are_reported = asks.are_reported;
      question = _;
      asked = asks.asked c.args.form;
      ends = c.answer_over.ensures;
    })
