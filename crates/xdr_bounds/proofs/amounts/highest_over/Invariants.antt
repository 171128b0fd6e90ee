use Rattle.std.proofs.Common.{◌≡◌, ℕ, max, drop}
use Rattle.xdr_bounds.specs.Private.Amounts.{Shows, places_of, highest}
use Rattle.xdr_bounds.proofs.amounts.highest_over.Given as goal

abbrev pub invariant-loop-id : goal.invariant-loop-id
invariant-loop-id l = (f : ℕ → ℕ) → Shows l.amounts.items f
    → max l.most (highest f (places_of (drop l.id-index l.id-items))) ≡ highest f (places_of l.id-items)
