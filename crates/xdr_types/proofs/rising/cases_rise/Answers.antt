use Rattle.std.proofs.Common.{◌≡◌, length, map, arith}
use Rattle.std.proofs.Math.Seq.{drop-length}
use Rattle.xdr_types.specs.KindViews.{branch_of}
use Rattle.xdr_types.proofs.Once.{once}
use Rattle.xdr_types.proofs.rising.cases_rise.Goals as goal

pub returns : goal.returns
returns c =
    let arms = c.args.arms.now in
    let none : c.loop-arm.arm-index ≡ length arms = omega arith in
    let rise = c.loop-arm.invariant (rw (none, drop-length arms) tt) in
    λ _. once rise.0 (map branch_of arms) rise.1
