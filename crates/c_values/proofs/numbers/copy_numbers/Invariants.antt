use Rattle.std.proofs.Common.{◌-◌, length}
use Rattle.c_values.proofs.Several.{AreCopied}
use Rattle.c_values.proofs.numbers.copy_numbers.Given as goal

abbrev pub invariant-loop-count : goal.invariant-loop-count
invariant-loop-count l = AreCopied l.items l.numbers l.count

abbrev pub decreases-loop-count : goal.decreases-loop-count
decreases-loop-count l = length l.items - l.count
