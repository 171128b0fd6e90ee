use Rattle.std.proofs.Common.{◌≡◌, ◌≤◌, length, take}
use Rattle.oncrpc_tasks.specs.Hexadecimal.{digits}
use Rattle.oncrpc_tasks.proofs.hexadecimal.count_of_few.Given as goal

abbrev pub invariant-loop-byte : goal.invariant-loop-byte
invariant-loop-byte l = record {
  counted : l.count ≡ length (digits (take l.byte-index l.text));
  few : l.count ≤ l.byte-index;
}
