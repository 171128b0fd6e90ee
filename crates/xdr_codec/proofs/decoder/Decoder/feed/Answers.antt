use Rattle.std.proofs.Common.{◌++◌}
use Rattle.std.proofs.Math.Logic.{∥∥₁_map}
use Rattle.xdr_types.specs.Kinds.{kind_at}
use Rattle.xdr_stream.specs.Represents.{taken}
use Rattle.xdr_codec.proofs.Outcomes.{answers}
use Rattle.xdr_codec.proofs.Given.{granted}
use Rattle.xdr_codec.proofs.decoder.Decoder.feed.Goals as goal

pub returns-clause-answer : goal.returns-clause-answer
returns-clause-answer c = λ b represents.
    let r = c.args.self.now.reader in
    answers r.schema.now.kinds r.kind.place r.limits c.depth-in_range.ensures.range.units b c.args.piece.now
    c.feed.result (c.feed.ensures.answer b represents)

pub invariant_of-self : goal.invariant_of-self
invariant_of-self c = record {
  given = ∥∥₁_map c.args.self.now.given
      (λ s. (s.0 ++ taken c.args.piece.now c.feed.result, c.feed.ensures.represents s.0 s.1));
}

pub returns-clause-granted : goal.returns-clause-granted
returns-clause-granted c = λ free.
    let r = c.args.self.now.reader in
    granted ⊥ (kind_at r.schema.now.kinds r.kind.place) c.feed.result c.args.self.now.given
    (λ s. c.feed.ensures.spared s.0 s.1) free
