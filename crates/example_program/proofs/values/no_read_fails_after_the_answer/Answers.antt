-- The input is read as it is, and nothing is shown.
use Rattle.example_program.proofs.Devices.{before_the_answer}
use Rattle.example_program.proofs.values.no_read_fails_after_the_answer.Goals as goal

pub returns : goal.returns
returns g c = λ three. before_the_answer tt (c.check_over.ensures.device three)
