use Rattle.std.proofs.Common.{◌-◌, drop, length, option_map}
use Rattle.xdr_types.specs.KindViews.{part_of_member}
use Rattle.xdr_types.proofs.Apart.{AreApart, by_arm, has_text}
use Rattle.xdr_types.proofs.twice.arm_repeats.Given as goal

abbrev pub invariant-loop-i : goal.invariant-loop-i
invariant-loop-i l = AreApart (by_arm (option_map part_of_member l.other)) (drop (length l.arms - l.i) l.arms)
    (has_text l.later)
