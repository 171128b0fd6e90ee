use Rattle.xdr_codec.proofs.Outcomes.{finishes}
use Rattle.xdr_codec.proofs.decoder.Decoder.finish.Goals as goal

pub returns-clause-answer : goal.returns-clause-answer
returns-clause-answer c = λ b represents.
    let r = c.args.self.reader in
    finishes r.schema.now.kinds r.kind.place r.limits c.depth-in_range.ensures.range.units b c.finish.result
    (c.finish.ensures.answer b represents)
