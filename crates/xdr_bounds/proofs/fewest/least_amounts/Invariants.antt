use Rattle.xdr_bounds.specs.Private.Rounds.{Keeps, weight}
use Rattle.xdr_bounds.proofs.fewest.least_amounts.Given as goal

abbrev pub invariant-loop : goal.invariant-loop
invariant-loop l = Keeps l.shapes.items l.initial.amounts.items l.amounts.items

abbrev pub decreases-loop : goal.decreases-loop
decreases-loop l = weight l.amounts.items
