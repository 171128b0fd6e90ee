use Rattle.std.proofs.Common.{length}
use Rattle.xdr_types.specs.Layout.{Entry}
use Rattle.xdr_paths.specs.Nodes.{Node}
use Rattle.xdr_paths.specs.Private.Standing.{StandsAt, TextLeadsTo}
use Rattle.xdr_paths.proofs.look.Look.along.Given as goal

abbrev pub invariant-loop-left : goal.invariant-loop-left
invariant-loop-left l =
    (n : Node) → StandsAt l.self.schema.now.kinds l.self.limits l.self.bytes.now l.initial.place n
    → (m : Node) × StandsAt l.self.schema.now.kinds l.self.limits l.self.bytes.now l.place m
    × ((e : Entry) → TextLeadsTo l.self.schema.now.kinds n l.text e
    → TextLeadsTo l.self.schema.now.kinds m l.left e)
    × ((e : Entry) → TextLeadsTo l.self.schema.now.kinds m l.left e
    → TextLeadsTo l.self.schema.now.kinds n l.text e)

abbrev pub decreases-loop-left : goal.decreases-loop-left
decreases-loop-left l = length l.left
