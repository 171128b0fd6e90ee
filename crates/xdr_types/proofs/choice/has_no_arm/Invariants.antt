use Rattle.std.proofs.Common.{◌≡◌, drop, map}
use Rattle.xdr_types.specs.KindViews.{branch_of}
use Rattle.xdr_types.specs.Sound.{has_arm}
use Rattle.xdr_types.proofs.choice.has_no_arm.Given as goal

abbrev pub invariant-loop-arm : goal.invariant-loop-arm
invariant-loop-arm l = has_arm (map branch_of (drop l.arm-index l.arms)) l.number ≡ has_arm
    (map branch_of l.arms) l.number
