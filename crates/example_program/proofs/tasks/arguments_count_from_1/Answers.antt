use Rattle.example_program.proofs.Arguments.{one_is_asked}
use Rattle.example_program.proofs.Endings.{nothing_asked}
use Rattle.example_program.proofs.tasks.arguments_count_from_1.Goals as goal

pub returns : goal.returns
returns g c = λ two. one_is_asked _ _ _ c.requires.types c.requires.limits c.requires.only
    (nothing_asked _ _ _ _ _ _ _ _ _ _ _ _ _ c.task_over.ensures.ends two)
