use Rattle.std.proofs.Common.{◌≡◌, ◌-◌, ℤ, drop, length, map, int_cmp}
use Rattle.std.specs.BTreeSet.{contains}
use Rattle.xdr_types.specs.KindViews.{branch_of}
use Rattle.xdr_types.specs.Sound.{has_arm}
use Rattle.xdr_types.proofs.sets.cases_of.Given as goal

abbrev pub invariant-loop-i : goal.invariant-loop-i
invariant-loop-i l =
    (z : ℤ) → contains int_cmp l.cases z ≡ has_arm (map branch_of (drop (length l.arms - l.i) l.arms)) z
