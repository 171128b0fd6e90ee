use Rattle.std.proofs.Common.{◌∙◌}
use Rattle.example_watch.proofs.calls.refused.Goals as goal

pub returns : goal.returns
returns c = c.take.ensures.found ∙ c.in-Err.ensures.unchanged.waits 3 7 ∙ c.in_ok-note.ensures.notes.noted
