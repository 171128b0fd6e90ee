use Rattle.std.proofs.Common.{◌≡◌, length}
use Rattle.xdr_parts.specs.Private.Walking.{Aim, HasWalked}
use Rattle.xdr_parts.proofs.walk.Walk.next.Given as goal

abbrev pub invariant-loop-next : goal.invariant-loop-next
invariant-loop-next l =
    ((all : Aim) → HasWalked l.initial.self all → HasWalked l.self all) × (l.self.taken ≡ l.initial.self.taken)
    × (l.self.bytes.now ≡ l.initial.self.bytes.now)

abbrev pub decreases-loop-next : goal.decreases-loop-next
decreases-loop-next l = length l.self.parents.items
