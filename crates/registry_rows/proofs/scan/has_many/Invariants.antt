use Rattle.std.proofs.Common.{◌≤◌, ◌-◌, length}
use Rattle.registry_rows.proofs.scan.has_many.Given as goal

abbrev pub invariant-loop-at : goal.invariant-loop-at
invariant-loop-at l = (l.at ≤ length l.column) × (l.places ≤ l.most)

abbrev pub decreases-loop-at : goal.decreases-loop-at
decreases-loop-at l = length l.column - l.at

abbrev pub invariant-loop-at-2 : goal.invariant-loop-at-2
invariant-loop-at-2 l = (l.at ≤ length l.column) × (l.places ≤ l.most)

abbrev pub decreases-loop-at-2 : goal.decreases-loop-at-2
decreases-loop-at-2 l = length l.column - l.at
