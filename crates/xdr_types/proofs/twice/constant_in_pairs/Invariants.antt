use Rattle.std.proofs.Common.{◌≡◌, drop, map}
use Rattle.xdr_types.specs.KindViews.{constant_of}
use Rattle.xdr_types.specs.Faults.{constant_twice}
use Rattle.xdr_types.proofs.twice.constant_in_pairs.Given as goal

abbrev pub invariant-loop-i : goal.invariant-loop-i
invariant-loop-i l = constant_twice (map constant_of (drop l.i l.members.items)) ≡ constant_twice
    (map constant_of l.members.items)
