use Rattle.std.proofs.Common.{◌-◌, drop, length, map, int_cmp}
use Rattle.std.specs.BTreeSet.{contains}
use Rattle.xdr_types.specs.KindViews.{branch_of}
use Rattle.xdr_types.proofs.Cases.{AreOnce}
use Rattle.xdr_types.proofs.twice.case_repeats.Given as goal

abbrev pub invariant-loop-i : goal.invariant-loop-i
invariant-loop-i l = AreOnce (map branch_of (drop (length l.arms - l.i) l.arms)) (contains int_cmp l.later)
