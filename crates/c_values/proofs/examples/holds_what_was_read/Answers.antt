-- With status 0 the handle holds what the text means.
use Rattle.std.proofs.Common.{sym, ◌∙◌}
use Rattle.c_values.proofs.Reported.{held_reported}
use Rattle.c_values.proofs.examples.holds_what_was_read.Goals as goal

pub returns : goal.returns
returns c = λ e f.
    let r = c.read_declarations-read.ensures in
    let k = c.check_by_declarations-check.ensures.answer in
    held_reported _ _ r.0 r.1 (sym e ∙ r.2) _ _ _ _ k.0 k.1 (sym f ∙ k.2)
