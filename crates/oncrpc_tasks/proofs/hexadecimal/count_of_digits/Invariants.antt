use Rattle.std.proofs.Common.{◌≡◌, ◌+◌, length}
use Rattle.oncrpc_tasks.specs.Hexadecimal.{digits}
use Rattle.oncrpc_tasks.proofs.hexadecimal.count_of_digits.Given as goal

abbrev pub invariant-loop-rest : goal.invariant-loop-rest
invariant-loop-rest l = l.count + length (digits l.rest) ≡ length (digits l.text)

abbrev pub decreases-loop-rest : goal.decreases-loop-rest
decreases-loop-rest l = length l.rest
