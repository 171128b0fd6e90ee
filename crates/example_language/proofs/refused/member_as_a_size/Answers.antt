use Rattle.example_language.proofs.Reporting.{not_read}
use Rattle.example_language.proofs.Meanings.{meanings}
use Rattle.example_language.proofs.refused.member_as_a_size.Goals as goal

pub returns : goal.returns
returns c = not_read _ c.is_read.result meanings.member_as_a_size c.is_read.ensures
