use Rattle.std.proofs.Common.{◌-◌, drop, length}
use Rattle.xdr_types.proofs.Apart.{AreApart, by_constant, has_text}
use Rattle.xdr_types.proofs.twice.constant_repeats.Given as goal

abbrev pub invariant-loop-i : goal.invariant-loop-i
invariant-loop-i l = AreApart by_constant (drop (length l.members - l.i) l.members) (has_text l.later)
