use Rattle.example_program.proofs.Normalised.{normal_printed}
use Rattle.example_program.proofs.records.a_text_is_normalised.Goals as goal

pub returns : goal.returns
returns g c = λ zero. normal_printed _ _ _ _ (c.records_over.ensures.ends.done zero)
