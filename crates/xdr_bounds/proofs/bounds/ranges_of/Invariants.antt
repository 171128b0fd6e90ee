use Rattle.std.proofs.Common.{◌≡◌, ℕ, ◌<◌, length, slice_index_or}
use Rattle.xdr_bounds.specs.Private.Amounts.{amount_at}
use Rattle.xdr_bounds.specs.declared.range.Range.{Range}
use Rattle.xdr_bounds.proofs.bounds.ranges_of.Given as goal

abbrev pub invariant-loop-place : goal.invariant-loop-place
invariant-loop-place l = record {
  lengths : length l.ranges.items ≡ l.place;
  each : (q : ℕ) (r : Range) → q < length l.ranges.items → r ≡ slice_index_or l.ranges.items q r
      → (r.least ≡ amount_at l.least.items q) × (r.greatest ≡ slice_index_or l.greatest.items q r.greatest);
}
