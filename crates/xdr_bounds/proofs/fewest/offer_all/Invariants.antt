use Rattle.std.proofs.Common.{vec_len}
use Rattle.xdr_bounds.specs.Private.Rounds.{Keeps}
use Rattle.xdr_bounds.proofs.fewest.offer_all.Given as goal

abbrev pub invariant-loop-place : goal.invariant-loop-place
invariant-loop-place l = Keeps l.shapes.items l.fn.amounts.items l.amounts.items

abbrev pub decreases-loop-place : goal.decreases-loop-place
decreases-loop-place l = vec_len l.places
