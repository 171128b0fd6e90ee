use Rattle.std.proofs.Common.{◌≡◌, drop}
use Rattle.oncrpc_tasks.specs.Hexadecimal.{digits}
use Rattle.oncrpc_tasks.proofs.hexadecimal.first_digit.Given as goal

abbrev pub invariant-loop-i : goal.invariant-loop-i
invariant-loop-i l = digits (drop l.i l.text) ≡ digits l.text
