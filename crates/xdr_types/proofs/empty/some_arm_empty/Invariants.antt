use Rattle.std.proofs.Common.{◌≡◌, drop, map}
use Rattle.std.specs.List.{list_any}
use Rattle.xdr_types.specs.Kinds.{Branch}
use Rattle.xdr_types.specs.KindViews.{branch_of}
use Rattle.xdr_types.specs.Faults.{is_none}
use Rattle.xdr_types.proofs.empty.some_arm_empty.Given as goal

abbrev pub invariant-loop-arm : goal.invariant-loop-arm
invariant-loop-arm l = list_any (λ (a : Branch). is_none a.cases)
    (map branch_of (drop l.arm-index l.arm-items)) ≡ list_any (λ (a : Branch). is_none a.cases)
    (map branch_of l.arm-items)
