use Rattle.std.proofs.Common.{◌≡◌, drop, map, string_bytes}
use Rattle.std.specs.Str.{bytes_eq}
use Rattle.std.specs.List.{list_any}
use Rattle.xdr_types.specs.Kinds.{Branch}
use Rattle.xdr_types.specs.KindViews.{branch_of}
use Rattle.xdr_types.proofs.twice.names_arm.Given as goal

abbrev pub invariant-loop-arm : goal.invariant-loop-arm
invariant-loop-arm l = list_any (λ (b : Branch). bytes_eq (string_bytes l.name) b.part.name)
    (map branch_of (drop l.arm-index l.arms)) ≡ list_any (λ (b : Branch). bytes_eq (string_bytes l.name) b.part.name)
    (map branch_of l.arms)
