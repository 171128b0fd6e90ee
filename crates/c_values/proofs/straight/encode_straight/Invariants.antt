use Rattle.std.proofs.Common.{◌-◌, length}
use Rattle.c_values.specs.Private.Encodings.{bytes_in}
use Rattle.c_values.proofs.Filling.{AreFilling}
use Rattle.c_values.proofs.straight.encode_straight.Given as goal

abbrev pub invariant-loop-at : goal.invariant-loop-at
invariant-loop-at l =
    AreFilling (record { kinds = l.schema.kinds; place = l.fn.kind.place; limits = l.fn.limits }) l.filling l.content
    l.items l.at (bytes_in l.encoding)

abbrev pub decreases-loop-at : goal.decreases-loop-at
decreases-loop-at l = length l.items - l.at
