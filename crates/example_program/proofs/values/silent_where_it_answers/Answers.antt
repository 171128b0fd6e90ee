-- Nothing is said of faults beside a line that is printed.
use Rattle.example_program.proofs.values.silent_where_it_answers.Goals as goal

pub returns-clause-silent : goal.returns-clause-silent
returns-clause-silent g c = λ done. (c.check_over.ensures.printed done).said
