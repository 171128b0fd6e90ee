-- The text of the file that is named means something in the dialect.
use Rattle.example_program.proofs.Endings.{looked_for}
use Rattle.example_program.proofs.Sourced.{in_dialect, one_file}
use Rattle.example_program.proofs.tasks.the_dialect_is_read.Goals as goal

pub returns : goal.returns
returns g c = λ done.
    let h = looked_for _ _ _ _ _ _ _ _ _ _ _ _ _ c.task_over.ensures.ends done in
    in_dialect _ _ _ c.requires.dialect (one_file (g.P.Opener.reported c.args.opener.now) _ _ _ _ _
    c.requires.files h.are_reported h.asked.source)
