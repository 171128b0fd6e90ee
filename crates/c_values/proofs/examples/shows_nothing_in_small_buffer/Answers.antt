-- The one answer with status 8 is that the buffer is too small, and then it stays.
use Rattle.std.proofs.Common.{sym, ◌∙◌}
use Rattle.c_values.proofs.Reported.{shown_reported}
use Rattle.c_values.proofs.examples.shows_nothing_in_small_buffer.Goals as goal

pub returns : goal.returns
returns c = λ e.
    let t = c.show_by_declarations.ensures.answer in
    shown_reported _ _ _ _ _ _ _ _ t.0 t.1 (sym e ∙ t.2)
