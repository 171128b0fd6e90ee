use Rattle.std.proofs.Common.{◌-◌, length}
use Rattle.xdr_writer.specs.Private.Runs.{SoFar}
use Rattle.xdr_writer.proofs.writer.Writer.put_numbers.Given as goal

abbrev pub invariant-loop-at : goal.invariant-loop-at
invariant-loop-at l = SoFar l.initial.self l.self l.numbers l.at l.initial.out.items l.out.items l.last

abbrev pub decreases-loop-at : goal.decreases-loop-at
decreases-loop-at l = length l.numbers - l.at
