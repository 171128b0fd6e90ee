-- The one answer with status 6 is an allocation failure.
use Rattle.std.proofs.Common.{sym, ◌∙◌}
use Rattle.c_values.proofs.Reported.{memory_reported}
use Rattle.c_values.proofs.examples.reports_nothing_without_memory.Goals as goal

pub returns : goal.returns
returns c = λ e. let t = c.check_by_text.ensures in t.3 ∙ memory_reported t.0 (sym e ∙ t.2)
