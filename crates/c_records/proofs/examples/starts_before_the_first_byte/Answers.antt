use Rattle.std.proofs.Common.{sym, ◌∙◌}
use Rattle.c_records.proofs.Reported.{started}
use Rattle.c_records.proofs.examples.starts_before_the_first_byte.Goals as goal

pub returns-clause-held : goal.returns-clause-held
returns-clause-held c = λ e.
    let s = c.start_records.ensures in
    let h = started 2147483647 _ s.0 s.1 (sym e ∙ s.2) in
    (h.held, h.is, h.fresh)
