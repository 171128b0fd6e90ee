use Rattle.std.proofs.Common.{◌≡◌, drop, map}
use Rattle.std.specs.List.{list_any}
use Rattle.xdr_types.specs.Kinds.{Branch}
use Rattle.xdr_types.specs.KindViews.{kind_view, branch_of}
use Rattle.xdr_types.specs.Faults.{is_outside}
use Rattle.xdr_types.proofs.places.some_arm_outside.Given as goal

abbrev pub invariant-loop-arm : goal.invariant-loop-arm
invariant-loop-arm l = list_any (λ (a : Branch). is_outside (map kind_view l.kinds.items) a.part.kind)
    (map branch_of (drop l.arm-index l.arm-items)) ≡ list_any
    (λ (a : Branch). is_outside (map kind_view l.kinds.items) a.part.kind) (map branch_of l.arm-items)
