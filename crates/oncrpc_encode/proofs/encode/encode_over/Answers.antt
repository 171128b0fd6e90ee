-- The value that is read is the one that the words ask for.
use Rattle.std.proofs.Common.{inl}
use Rattle.oncrpc_encode.proofs.encode.encode_over.Goals as goal

pub returns-clause-ends : goal.returns-clause-ends
returns-clause-ends g c =
    let asks = c.in-Ok.ensures.asks in
    inl (record {
      texts = asks.texts;
      are_reported = asks.are_reported;
      sought = _;
      seeks = asks.asked;
      ends = c.encode_value_over.ensures;
    })
