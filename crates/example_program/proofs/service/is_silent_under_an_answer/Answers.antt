use Rattle.example_program.proofs.service.is_silent_under_an_answer.Goals as goal

pub returns : goal.returns
returns g c = c.info_over.ensures.ends.silent
