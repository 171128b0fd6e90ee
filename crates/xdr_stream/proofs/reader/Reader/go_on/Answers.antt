use Rattle.std.proofs.Common.{◌≡◌, ℕ, ◌++◌, length, subst, arith}
use Rattle.xdr_types.specs.Outcome.{Outcome, TooLarge}
use Rattle.xdr_stream.specs.Frames.{stack_of}
use Rattle.xdr_stream.proofs.Standing.{sees_large}
use Rattle.xdr_stream.proofs.reader.Reader.go_on.Goals as goal

pub returns-then-self-bytes-clause-represents : goal.returns-then-self-bytes-clause-represents
returns-then-self-bytes-clause-represents g c = λ q len none h ready.
    let a = c.args.self.now in
    let full : length q ≡ a.limits.bytes = omega (arith, len, c.if-self-bytes.true, c.bytes.ensures) in
    c.fail.ensures.represents q
    (λ rest. subst (λ (n : ℕ). Outcome a.schema.now.kinds a.kind.place a.limits (q ++ rest) (TooLarge n)) len
    (sees_large a.schema.now.kinds a.kind.place a.limits (g.B.Build.reports a.built) q c.args.awaits
    (stack_of a.work a.parents.items) rest ready full h))
    (omega (arith, len)) tt
