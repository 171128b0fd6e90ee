use Rattle.std.proofs.Common.{◌≡◌, ℕ, ◌<◌, ◌≤◌, IsTrue, false}
use Rattle.xdr_bounds.specs.Private.Rounds.{KeepsKnown, IsSettledAt, undone}
use Rattle.xdr_bounds.proofs.most.round.Given as goal

abbrev pub invariant-loop-place : goal.invariant-loop-place
invariant-loop-place l = record {
  keeps : KeepsKnown l.shapes.items l.fn.amounts.items l.fn.done.items l.amounts.items l.done.items;
  sinks : undone l.done.items ≤ undone l.fn.done.items;
  falls : IsTrue l.found → undone l.done.items < undone l.fn.done.items;
  settled : l.found ≡ false → (q : ℕ) → q < l.place → IsSettledAt l.shapes.items l.done.items q;
}
