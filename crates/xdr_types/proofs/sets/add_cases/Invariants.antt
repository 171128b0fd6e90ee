use Rattle.std.proofs.Common.{◌≡◌, ◌-◌, ◌||◌, ℤ, drop, length, int_cmp}
use Rattle.std.specs.BTreeSet.{contains}
use Rattle.xdr_types.specs.Fits.{is_listed}
use Rattle.xdr_types.proofs.sets.add_cases.Given as goal

abbrev pub invariant-loop-i : goal.invariant-loop-i
invariant-loop-i l =
    (z : ℤ) → contains int_cmp l.cases z
    ≡ is_listed (drop (length l.more - l.i) l.more) z || contains int_cmp l.initial.cases z
