-- What is done was asked for, within limits in their ranges.
use Rattle.example_program.proofs.Endings.{looked_for}
use Rattle.example_program.proofs.tasks.limits_are_looked_at.Goals as goal

pub returns : goal.returns
returns g c = λ done. (looked_for _ _ _ _ _ _ _ _ _ _ _ _ _ c.task_over.ensures.ends done).asked.in_range
