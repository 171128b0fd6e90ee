use Rattle.std.proofs.Common.{drop, map, ℤ}
use Rattle.xdr_types.specs.KindViews.{branch_of}
use Rattle.xdr_types.specs.Private.Rising.{ArmsRise}
use Rattle.xdr_types.proofs.rising.cases_rise.Given as goal

abbrev pub invariant-loop-arm : goal.invariant-loop-arm
invariant-loop-arm l = ArmsRise l.last (map branch_of (drop l.arm-index l.arms))
    → (low : ℤ) × ArmsRise low (map branch_of l.arms)
