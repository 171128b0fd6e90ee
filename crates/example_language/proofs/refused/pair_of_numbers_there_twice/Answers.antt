use Rattle.example_language.proofs.Reporting.{not_read}
use Rattle.example_language.proofs.Meanings.{meanings}
use Rattle.example_language.proofs.refused.pair_of_numbers_there_twice.Goals as goal

pub returns : goal.returns
returns c = not_read _ c.is_read.result meanings.pair_of_numbers_there_twice c.is_read.ensures
