use Rattle.capture_streams.specs.Segments.{given}
use Rattle.capture_streams.proofs.Counting.{holds_given}
use Rattle.capture_streams.proofs.direction.Direction.held.Goals as goal

pub returns-clause-given : goal.returns-clause-given
returns-clause-given c = λ arrivals base handed r.
    let d = c.args.self.now in
    holds_given d (given d.first arrivals) base handed c.held.result c.held.ensures.cost r
