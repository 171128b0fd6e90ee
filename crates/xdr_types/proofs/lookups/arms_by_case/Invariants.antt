use Rattle.std.proofs.Common.{◌≡◌, ℤ, drop, map}
use Rattle.std.specs.Option.{option_or}
use Rattle.xdr_types.specs.Private.Lookups.{first_at}
use Rattle.xdr_types.specs.KindViews.{branch_of}
use Rattle.xdr_types.specs.Private.Lookups.{arm_from}
use Rattle.xdr_types.proofs.lookups.arms_by_case.Given as goal

abbrev pub invariant-loop-index : goal.invariant-loop-index
invariant-loop-index l =
    (z : ℤ) → option_or (first_at l.found.items z) (arm_from l.index (map branch_of (drop l.index l.arms)) z)
    ≡ arm_from 0 (map branch_of l.arms) z
