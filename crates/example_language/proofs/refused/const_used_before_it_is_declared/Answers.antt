use Rattle.example_language.proofs.Reporting.{not_read}
use Rattle.example_language.proofs.Meanings.{meanings}
use Rattle.example_language.proofs.refused.const_used_before_it_is_declared.Goals as goal

pub returns : goal.returns
returns c = not_read _ c.is_read.result meanings.const_used_before_it_is_declared c.is_read.ensures
