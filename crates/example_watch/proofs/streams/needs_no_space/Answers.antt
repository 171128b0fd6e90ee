use Rattle.example_watch.proofs.Ahead.{not_ahead}
use Rattle.example_watch.proofs.streams.needs_no_space.Goals as goal

pub returns-in-Err-Full : goal.returns-in-Err-Full
returns-in-Err-Full c =
    let d = c.start-direction in
    let refused = rw c.in-Err-Full.field-0-is at c.in-Err-Full.ensures.refused in
    absurd (not_ahead d.result d.ensures.first d.ensures.stands.due refused.1)
