use Rattle.std.proofs.Common.{◌≡◌, drop, map}
use Rattle.std.specs.List.{list_any}
use Rattle.xdr_types.specs.KindViews.{branch_of}
use Rattle.xdr_types.specs.Sound.{has_arm}
use Rattle.xdr_types.proofs.twice.some_has_arm.Given as goal

abbrev pub invariant-loop-case : goal.invariant-loop-case
invariant-loop-case l = list_any (has_arm (map branch_of l.arms)) (drop l.case-index l.case-items) ≡ list_any
    (has_arm (map branch_of l.arms)) l.case-items
