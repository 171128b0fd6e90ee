use Rattle.example_language.proofs.Reporting.{not_read}
use Rattle.example_language.proofs.Meanings.{meanings}
use Rattle.example_language.proofs.refused.struct_before_a_union.Goals as goal

pub returns : goal.returns
returns c = not_read _ c.is_read.result meanings.struct_before_a_union c.is_read.ensures
