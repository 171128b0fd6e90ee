use Rattle.std.proofs.Common.{◌≡◌, ◌-◌, ℤ, drop, length, map, int_cmp}
use Rattle.std.specs.BTreeSet.{contains}
use Rattle.xdr_types.specs.KindViews.{constant_of}
use Rattle.xdr_types.specs.Fits.{is_numbered}
use Rattle.xdr_types.proofs.sets.numbers_of_members.Given as goal

abbrev pub invariant-loop-i : goal.invariant-loop-i
invariant-loop-i l =
    (z : ℤ) → contains int_cmp l.numbers z
    ≡ is_numbered (map constant_of (drop (length l.members - l.i) l.members)) z
