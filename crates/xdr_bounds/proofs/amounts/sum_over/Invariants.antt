use Rattle.std.proofs.Common.{◌≡◌, ℕ, ◌+◌, drop}
use Rattle.xdr_bounds.specs.Private.Amounts.{Shows, places_of, total}
use Rattle.xdr_bounds.proofs.amounts.sum_over.Given as goal

abbrev pub invariant-loop-id : goal.invariant-loop-id
invariant-loop-id l = (f : ℕ → ℕ) → Shows l.amounts.items f
    → l.sum + total f (places_of (drop l.id-index l.id-items)) ≡ total f (places_of l.id-items)
