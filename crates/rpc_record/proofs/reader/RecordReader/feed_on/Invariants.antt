use Rattle.std.proofs.Common.{◌≡◌, ◌≤◌, ◌-◌, length, take}
use Rattle.rpc_record.specs.Represents.{IsTaking, Takes, limit_of}
use Rattle.rpc_record.specs.Private.Steps.{IsFed, Refuses}
use Rattle.rpc_record.proofs.reader.RecordReader.feed_on.Given as goal

abbrev pub invariant-loop-used : goal.invariant-loop-used
invariant-loop-used l = record {
  within : l.used ≤ length l.piece;
  limit : limit_of l.self ≡ limit_of l.fn.self;
  takes : Takes l.fn.self l.self (take l.used l.piece);
  refuses : Refuses l.fn.self l.self (take l.used l.piece);
  fed : IsTaking l.fn.self → IsFed l.self;
  idle : (IsTaking l.fn.self → ⊥) → l.used ≡ 0;
  begun : l.used ≡ 0 → l.self ≡ l.fn.self;
}

abbrev pub decreases-loop-used : goal.decreases-loop-used
decreases-loop-used l = length l.piece - l.used
