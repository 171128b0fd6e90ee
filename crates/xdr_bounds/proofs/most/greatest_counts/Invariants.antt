use Rattle.std.proofs.Common.{◌≡◌, ℕ, ◌<◌, length, slice_index_or}
use Rattle.xdr_bounds.specs.Private.Amounts.{amount_at}
use Rattle.xdr_bounds.specs.Private.Rounds.{KeepsKnown, undone, told, is_done}
use Rattle.xdr_bounds.specs.declared.greatest.Greatest.{Greatest}
use Rattle.xdr_bounds.proofs.most.greatest_counts.Given as goal

abbrev pub invariant-loop : goal.invariant-loop
invariant-loop l =
    KeepsKnown l.shapes.items l.initial.amounts.items l.initial.done.items l.amounts.items l.done.items

abbrev pub decreases-loop : goal.decreases-loop
decreases-loop l = undone l.done.items

abbrev pub invariant-loop-place : goal.invariant-loop-place
invariant-loop-place l = record {
  lengths : length l.counts.items ≡ l.place;
  each : (q : ℕ) (g : Greatest) → q < length l.counts.items → g ≡ slice_index_or l.counts.items q g
      → g ≡ told (amount_at l.amounts.items q) (is_done l.done.items q);
}
