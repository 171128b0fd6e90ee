use Rattle.std.proofs.Common.{◌≡◌, drop, map, option_map}
use Rattle.xdr_types.specs.KindViews.{part_of_member, branch_of}
use Rattle.xdr_types.specs.Faults.{arm_twice}
use Rattle.xdr_types.proofs.twice.arm_in_pairs.Given as goal

abbrev pub invariant-loop-i : goal.invariant-loop-i
invariant-loop-i l = arm_twice (map branch_of (drop l.i l.arms.items)) (option_map part_of_member l.other) ≡ arm_twice
    (map branch_of l.arms.items) (option_map part_of_member l.other)
