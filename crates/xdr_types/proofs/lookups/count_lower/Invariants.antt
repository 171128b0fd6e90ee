use Rattle.std.proofs.Common.{ℕ, ◌-◌, ◌≤◌, ◌<◌, ◌≤ℤ◌, ◌<ℤ◌, length}
use Rattle.xdr_types.specs.Private.Lookups.{number_at}
use Rattle.xdr_types.proofs.lookups.count_lower.Given as goal

abbrev pub invariant-loop-low : goal.invariant-loop-low
invariant-loop-low l = record {
  order : l.low ≤ l.high;
  within : l.high ≤ length l.found.items;
  below : (i : ℕ) → i < l.low → number_at l.found.items i <ℤ l.number;
  above : (i : ℕ) → l.high ≤ i → i < length l.found.items → l.number ≤ℤ number_at l.found.items i;
}

abbrev pub decreases-loop-low : goal.decreases-loop-low
decreases-loop-low l = l.high - l.low
