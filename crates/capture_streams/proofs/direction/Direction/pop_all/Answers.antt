use Rattle.capture_streams.proofs.Holding.{hole_from}
use Rattle.capture_streams.proofs.direction.Direction.pop_all.Goals as goal

pub returns-clause-whole : goal.returns-clause-whole
returns-clause-whole c =
    hole_from c.loop-self.self.pieces.by_last c.loop-self.self.due c.stretch_at.result c.stretch_at.ensures
    c.in_default.not-Held
