use Rattle.std.proofs.Common.{◌≡◌, drop, []}
use Rattle.xdr_lang.specs.Distinct.{repeats, same_pair}
use Rattle.xdr_lang.proofs.distinct.pairs_repeat.Given as goal

abbrev pub invariant-loop-pair : goal.invariant-loop-pair
invariant-loop-pair l = repeats same_pair l.before.keys (drop l.pair-index l.pairs) ≡ repeats same_pair [] l.pairs
