-- At 2 nothing was read or printed.
use Rattle.example_program.proofs.Endings.{unread}
use Rattle.example_program.proofs.tasks.refused_before_it_is_read.Goals as goal

pub returns : goal.returns
returns g c = record {
  unread = λ two. (unread _ _ _ _ _ _ _ _ _ _ _ c.args.task.now c.task_over.ensures.ends two).0;
  unprinted = λ two. (unread _ _ _ _ _ _ _ _ _ _ _ c.args.task.now c.task_over.ensures.ends two).1;
}
