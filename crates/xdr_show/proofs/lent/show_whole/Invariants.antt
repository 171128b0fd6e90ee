use Rattle.std.proofs.Common.{◌-◌, ◌^◌}
use Rattle.xdr_types.specs.Tree.{Tree}
use Rattle.xdr_parts.specs.Coming.{IsOneValue}
use Rattle.xdr_show.proofs.Batches.{HasSaid}
use Rattle.xdr_show.proofs.lent.show_whole.Given as goal

abbrev pub invariant-loop-walk : goal.invariant-loop-walk
invariant-loop-walk l =
    (v : Tree) → IsOneValue l.schema.kinds l.fn.kind.place l.fn.limits l.bytes v
    → HasSaid l.schema.kinds l.fn.kind.place v l.bytes l.walk l.out.items

-- more parts are handed out
abbrev pub decreases-loop-walk : goal.decreases-loop-walk
decreases-loop-walk l = 2 ^ 64 - l.walk.handed
