use Rattle.std.proofs.Common.{◌≡◌, ◌+◌, ◌*◌, length}
use Rattle.oncrpc_tasks.specs.Hexadecimal.{digits}
use Rattle.oncrpc_tasks.specs.Private.Hexed.{joined, pairs}
use Rattle.oncrpc_tasks.proofs.hexadecimal.bytes_of_text.Given as goal

-- What was found stands before what the rest spells, which has two digits for each byte that is still to be found.
abbrev pub invariant-pairs : goal.invariant-pairs
invariant-pairs l = record {
  spelled : joined l.found.items (pairs (digits l.rest)) ≡ pairs (digits l.fn.text);
  left : length (digits l.rest) + 2 * l.i ≡ l.count;
}
