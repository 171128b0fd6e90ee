-- Both texts, a line feed between them, mean something.
use Rattle.example_program.proofs.Endings.{looked_for}
use Rattle.example_program.proofs.Sourced.{two_files}
use Rattle.example_program.proofs.tasks.two_files_are_one_text.Goals as goal

pub returns : goal.returns
returns g c = λ done first second p q.
    let h = looked_for _ _ _ _ _ _ _ _ _ _ _ _ _ c.task_over.ensures.ends done in
    two_files (g.P.Opener.reported c.args.opener.now) _ _ _ _ _ _ first second c.requires.files c.requires.dialect
    h.are_reported h.asked.source p q
