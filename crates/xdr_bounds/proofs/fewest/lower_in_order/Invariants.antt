use Rattle.xdr_bounds.specs.Private.Rounds.{Keeps}
use Rattle.xdr_bounds.proofs.fewest.lower_in_order.Given as goal

abbrev pub invariant-loop-place : goal.invariant-loop-place
invariant-loop-place l = Keeps l.shapes.items l.fn.amounts.items l.amounts.items
