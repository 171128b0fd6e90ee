use Rattle.std.proofs.Common.{ℕ, ◌<◌}
use Rattle.xdr_types.specs.Private.Rounds.{IsMarked}
use Rattle.xdr_types.proofs.heights.first_unmarked.Given as goal

abbrev pub invariant-loop-place : goal.invariant-loop-place
invariant-loop-place l = (q : ℕ) → q < l.place → IsMarked l.heights.items q
