use Rattle.std.proofs.Common.{◌-◌, length}
use Rattle.c_values.proofs.Putting.{AreWriting}
use Rattle.c_values.proofs.writing.encode_items.Given as goal

abbrev pub invariant-loop-at : goal.invariant-loop-at
invariant-loop-at l =
    AreWriting (record { kinds = l.schema.kinds; place = l.fn.kind.place; limits = l.fn.limits }) l.writer l.content
    l.items l.at l.out.items l.last

abbrev pub decreases-loop-at : goal.decreases-loop-at
decreases-loop-at l = length l.items - l.at
