use Rattle.std.proofs.Common.{length}
use Rattle.xdr_paths.proofs.Named.{FieldsLeft}
use Rattle.xdr_paths.proofs.look.Look.field.Given as goal

abbrev pub invariant-loop-field : goal.invariant-loop-field
invariant-loop-field l =
    FieldsLeft l.self.schema.now.kinds l.self.limits l.self.bytes.now l.depth l.name l.fields l.at l.left l.place

abbrev pub decreases-loop-field : goal.decreases-loop-field
decreases-loop-field l = length l.left
