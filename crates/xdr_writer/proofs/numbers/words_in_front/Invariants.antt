use Rattle.std.proofs.Common.{take}
use Rattle.xdr_writer.specs.Private.Runs.{AreWords}
use Rattle.xdr_writer.proofs.numbers.words_in_front.Given as goal

abbrev pub invariant-loop-at : goal.invariant-loop-at
invariant-loop-at l = AreWords l.signed (take l.at l.numbers)
