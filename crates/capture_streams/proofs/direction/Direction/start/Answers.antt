use Rattle.std.proofs.Common.{refl}
use Rattle.capture_streams.proofs.direction.Direction.start.Goals as goal

pub returns-clause-stands : goal.returns-clause-stands
returns-clause-stands c = record { due = refl; front = tt; held = λ place low. c.new.ensures.empty place }
