use Rattle.std.proofs.Common.{◌≡◌, ◌≤◌, ◌-◌, ◌^◌}
use Rattle.xdr_parts.specs.Private.Walking.{Aim, HasWalked}
use Rattle.xdr_parts.proofs.walk.Walk.take_fields.Given as goal

abbrev pub invariant-loop-self : goal.invariant-loop-self
invariant-loop-self l =
    ((all : Aim) → HasWalked l.initial.self all → HasWalked l.self all)
    × (l.initial.self.taken.parts ≤ l.self.taken.parts) × (l.self.bytes.now ≡ l.initial.self.bytes.now)

-- each part is counted
abbrev pub decreases-loop-self : goal.decreases-loop-self
decreases-loop-self l = 2 ^ 64 - l.self.taken.parts
