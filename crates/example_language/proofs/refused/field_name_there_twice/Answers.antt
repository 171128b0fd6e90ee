use Rattle.example_language.proofs.Reporting.{not_read}
use Rattle.example_language.proofs.Meanings.{meanings}
use Rattle.example_language.proofs.refused.field_name_there_twice.Goals as goal

pub returns : goal.returns
returns c = not_read _ c.is_read.result meanings.field_name_there_twice c.is_read.ensures
