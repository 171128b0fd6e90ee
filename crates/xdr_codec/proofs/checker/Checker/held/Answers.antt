use Rattle.xdr_codec.proofs.Given.{counted}
use Rattle.xdr_codec.proofs.checker.Checker.held.Goals as goal

pub returns-clause-counts : goal.returns-clause-counts
returns-clause-counts c =
    counted c.args.self.now.reader _ _ c.held_by_checker.result c.args.self.now.given
    (λ s. c.held_by_checker.ensures.counts s.0 s.1)
