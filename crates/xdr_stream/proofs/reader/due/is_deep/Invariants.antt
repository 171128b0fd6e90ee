use Rattle.std.proofs.Common.{◌+◌, ◌-◌, ◌<◌, length}
use Rattle.xdr_laws.specs.Owed.{IsSolid}
use Rattle.xdr_types.specs.Kinds.{kind_at}
use Rattle.xdr_stream.proofs.Heights.{IsDue}
use Rattle.xdr_stream.proofs.reader.due.is_deep.Given as goal

abbrev pub invariant-loop-depth : goal.invariant-loop-depth
invariant-loop-depth l =
    (l.id.place < length l.schema.kinds) × IsSolid (kind_at l.schema.kinds l.id.place)
    × IsDue l.schema.kinds l.fn.kind.place l.limits l.id.place l.depth

abbrev pub decreases-loop-depth : goal.decreases-loop-depth
decreases-loop-depth l = l.limits.depth + 1 - l.depth
