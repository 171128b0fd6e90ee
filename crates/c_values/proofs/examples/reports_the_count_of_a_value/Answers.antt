-- The one answer with status 0 is a whole value.
use Rattle.std.proofs.Common.{sym, ◌∙◌}
use Rattle.c_values.proofs.Reported.{whole_reported}
use Rattle.c_values.proofs.examples.reports_the_count_of_a_value.Goals as goal

pub returns : goal.returns
returns c = λ e. let t = c.check_by_text.ensures in t.3 ∙ whole_reported _ _ _ _ _ t.0 t.1 (sym e ∙ t.2)
