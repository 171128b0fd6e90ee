use Rattle.std.proofs.Common.{◌-◌, drop, length, int_cmp}
use Rattle.std.specs.BTreeSet.{contains}
use Rattle.xdr_types.proofs.Apart.{AreApart}
use Rattle.xdr_types.proofs.Cases.{by_case}
use Rattle.xdr_types.proofs.twice.is_refilled.Given as goal

abbrev pub invariant-loop-i : goal.invariant-loop-i
invariant-loop-i l = AreApart (by_case (contains int_cmp l.initial.later)) (drop (length l.cases - l.i) l.cases)
    (contains int_cmp l.later)
