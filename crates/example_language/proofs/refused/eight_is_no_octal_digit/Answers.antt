use Rattle.example_language.proofs.Reporting.{not_read}
use Rattle.example_language.proofs.Meanings.{meanings}
use Rattle.example_language.proofs.refused.eight_is_no_octal_digit.Goals as goal

pub returns : goal.returns
returns c = not_read _ c.is_read.result meanings.eight_is_no_octal_digit c.is_read.ensures
