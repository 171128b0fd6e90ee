use Rattle.std.proofs.Common.{length, drop, ◌-◌, ◌+◌, ◌≡◌, ◌≤◌}
use Rattle.std.specs.List.{prefix_len}
use Rattle.registry_rows.specs.Columns.{is_other}
use Rattle.registry_rows.proofs.scan.next_slowly.Given as goal

-- What is before the next place is what was passed, and what is before it from here on.
abbrev pub invariant-loop-at : goal.invariant-loop-at
invariant-loop-at l = record {
  passed : l.from + prefix_len (is_other l.prog) (drop l.from l.column)
      ≡ l.at + prefix_len (is_other l.prog) (drop l.at l.column);
  within : l.at ≤ length l.column;
}

abbrev pub decreases-loop-at : goal.decreases-loop-at
decreases-loop-at l = length l.column - l.at
