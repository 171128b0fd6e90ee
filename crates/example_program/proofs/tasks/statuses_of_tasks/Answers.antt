-- However a task ends, its reads are few.
use Rattle.example_program.proofs.Endings.{few_reads}
use Rattle.example_program.proofs.tasks.statuses_of_tasks.Goals as goal

pub returns-clause-reads : goal.returns-clause-reads
returns-clause-reads g c = few_reads _ _ _ _ _ _ _ _ _ _ _ c.args.task.now c.task_over.ensures.ends
