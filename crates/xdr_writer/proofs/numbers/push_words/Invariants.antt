use Rattle.std.proofs.Common.{◌≡◌, ◌++◌, take}
use Rattle.xdr_writer.specs.Private.Runs.{words}
use Rattle.xdr_writer.proofs.numbers.push_words.Given as goal

abbrev pub invariant-loop-number : goal.invariant-loop-number
invariant-loop-number l = l.out.items ≡ l.initial.out.items ++ words (take l.number-index l.numbers)
