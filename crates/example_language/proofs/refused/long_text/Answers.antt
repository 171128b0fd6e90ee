use Rattle.example_language.proofs.Reporting.{not_short}
use Rattle.example_language.proofs.refused.long_text.Goals as goal

pub returns : goal.returns
returns c = not_short _ c.is_read.result c.requires c.is_read.ensures
