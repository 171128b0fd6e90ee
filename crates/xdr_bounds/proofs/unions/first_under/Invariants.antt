use Rattle.std.proofs.Common.{ℤ, ◌≤ℤ◌, ◌<ℤ◌}
use Rattle.xdr_bounds.specs.Private.Unions.{PicksKind}
use Rattle.xdr_bounds.proofs.unions.first_under.Given as goal

abbrev pub invariant-loop-number : goal.invariant-loop-number
invariant-loop-number l = record {
  within : l.low ≤ℤ l.number;
  none : (z : ℤ) → l.low ≤ℤ z → z <ℤ l.number
      → PicksKind l.choice.schema.now.kinds l.choice.id.place z l.part.place → ⊥;
}
