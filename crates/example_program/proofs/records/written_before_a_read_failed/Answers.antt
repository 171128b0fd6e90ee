use Rattle.example_program.proofs.Stopped.{before_a_failure}
use Rattle.example_program.proofs.records.written_before_a_read_failed.Goals as goal

pub returns : goal.returns
returns g c = λ three none.
    before_a_failure _ _ _ _ _ _ _ _ _ c.records_over.ensures.ends three c.requires none
