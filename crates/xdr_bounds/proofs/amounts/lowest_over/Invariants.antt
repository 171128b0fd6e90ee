use Rattle.std.proofs.Common.{◌≡◌, ℕ, ◌^◌, ◌≤◌, min, drop}
use Rattle.xdr_bounds.specs.Private.Amounts.{Amounts, Shows, places_of, lowest}
use Rattle.xdr_bounds.proofs.amounts.lowest_over.Given as goal

abbrev pub invariant-loop-id : goal.invariant-loop-id
invariant-loop-id l = (f : ℕ → ℕ) → Shows l.amounts.items f
    → (n : ℕ) × Amounts l.least n × (n ≤ 2 ^ 64)
    × (min n (lowest f (places_of (drop l.id-index l.id-items))) ≡ lowest f (places_of l.id-items))
