use Rattle.std.proofs.Common.{◌-◌, length}
use Rattle.xdr_types.specs.Private.Rounds.{BetweenSteps}
use Rattle.xdr_types.proofs.heights.lowest_without_height.Given as goal

abbrev pub invariant-loop : goal.invariant-loop
invariant-loop l = BetweenSteps l.kinds.items l.reached.items l.waits.items l.heights.items l.next

abbrev pub decreases-loop : goal.decreases-loop
decreases-loop l = length l.kinds.items - l.next
