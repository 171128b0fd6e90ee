use Rattle.std.proofs.Common.{◌≡◌, ℕ, ◌<◌, ◌≤◌, IsTrue, false}
use Rattle.xdr_bounds.specs.Private.Rounds.{Keeps, IsLowAt, weight}
use Rattle.xdr_bounds.proofs.fewest.round.Given as goal

abbrev pub invariant-loop-place : goal.invariant-loop-place
invariant-loop-place l = record {
  keeps : Keeps l.shapes.items l.fn.amounts.items l.amounts.items;
  sinks : weight l.amounts.items ≤ weight l.fn.amounts.items;
  falls : IsTrue l.fell → weight l.amounts.items < weight l.fn.amounts.items;
  low : l.fell ≡ false → (q : ℕ) → q < l.place → IsLowAt l.shapes.items l.amounts.items q;
}
