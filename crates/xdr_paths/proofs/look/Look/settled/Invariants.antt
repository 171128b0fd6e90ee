use Rattle.std.proofs.Common.{◌≡◌, ◌-◌, length}
use Rattle.xdr_paths.specs.Nodes.{Node, settled}
use Rattle.xdr_paths.specs.Private.Standing.{StandsAt}
use Rattle.xdr_paths.proofs.look.Look.settled.Given as goal

abbrev pub invariant-loop-item : goal.invariant-loop-item
invariant-loop-item l =
    (n : Node) → StandsAt l.self.schema.now.kinds l.self.limits l.self.bytes.now l.initial.place n
    → (m : Node) × StandsAt l.self.schema.now.kinds l.self.limits l.self.bytes.now l.place m
    × (settled l.self.schema.now.kinds m ≡ settled l.self.schema.now.kinds n)

abbrev pub decreases-loop-item : goal.decreases-loop-item
decreases-loop-item l = length l.self.bytes.now - l.place.at
