use Rattle.xdr_bounds.specs.Private.Rounds.{KeepsKnown}
use Rattle.xdr_bounds.proofs.most.settle_in_order.Given as goal

abbrev pub invariant-loop-place : goal.invariant-loop-place
invariant-loop-place l =
    KeepsKnown l.shapes.items l.fn.amounts.items l.fn.done.items l.amounts.items l.done.items
