use Rattle.std.proofs.Common.{◌-◌, drop, length}
use Rattle.xdr_types.proofs.Apart.{AreApart, by_field, has_text}
use Rattle.xdr_types.proofs.twice.field_repeats.Given as goal

abbrev pub invariant-loop-i : goal.invariant-loop-i
invariant-loop-i l = AreApart by_field (drop (length l.fields - l.i) l.fields) (has_text l.later)
