use Rattle.std.proofs.Common.{◌≡◌, drop, map}
use Rattle.xdr_types.specs.KindViews.{part_of_member}
use Rattle.xdr_types.specs.Faults.{part_twice}
use Rattle.xdr_types.proofs.twice.field_in_pairs.Given as goal

abbrev pub invariant-loop-i : goal.invariant-loop-i
invariant-loop-i l = part_twice (map part_of_member (drop l.i l.fields.items)) ≡ part_twice
    (map part_of_member l.fields.items)
