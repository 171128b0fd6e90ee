use Rattle.std.proofs.Common.{◌≡◌, drop, map}
use Rattle.xdr_types.specs.KindViews.{branch_of}
use Rattle.xdr_types.specs.Faults.{arms_case_twice}
use Rattle.xdr_types.proofs.twice.case_in_pairs.Given as goal

abbrev pub invariant-loop-i : goal.invariant-loop-i
invariant-loop-i l = arms_case_twice (map branch_of (drop l.i l.arms.items)) ≡ arms_case_twice
    (map branch_of l.arms.items)
