use Rattle.xdr_writer.proofs.Pieces.{judges_fed, grants_fed}
use Rattle.xdr_writer.proofs.judging.judge.Goals as goal

pub returns-clause-judges : goal.returns-clause-judges
returns-clause-judges c =
    judges_fed c.args.checker.now c.feed-fed.new.self c.args.bytes.now c.feed-fed.ensures.same c.feed-fed.result
    c.step_of.result c.feed-fed.ensures.represents c.feed-fed.ensures.outcome c.feed-fed.ensures.leaves
    c.step_of.ensures

pub returns-clause-granted : goal.returns-clause-granted
returns-clause-granted c = grants_fed c.args.checker.now _ c.feed-fed.result c.step_of.result c.step_of.ensures
    c.feed-fed.ensures.granted
