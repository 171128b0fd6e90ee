use Rattle.example_language.proofs.Reporting.{not_read}
use Rattle.example_language.proofs.Meanings.{meanings}
use Rattle.example_language.proofs.refused.long_as_a_name.Goals as goal

pub returns : goal.returns
returns c = not_read _ c.is_read.result meanings.long_as_a_name c.is_read.ensures
