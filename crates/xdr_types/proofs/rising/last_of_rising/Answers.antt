use Rattle.std.proofs.Common.{◌≡◌, ℤ, length, w64, to_z, of_z, refl, subst, arith, rules}
use Rattle.std.proofs.Math.Seq.{drop-length}
use Rattle.xdr_types.specs.Private.Rising.{RiseTo}
use Rattle.xdr_types.proofs.rising.last_of_rising.Goals as goal

pub returns : goal.returns
returns c =
    let cs = c.args.cases.now in
    let end = to_z w64 c.loop-case.last-bits in
    let none : c.loop-case.case-index ≡ length cs = omega arith in
    let same : to_z w64 (of_z w64 c.args.low) ≡ c.args.low = search rules in
    subst (λ (low : ℤ). RiseTo low cs end) same (c.loop-case.invariant end (rw (none, drop-length cs) refl))
