use Rattle.std.proofs.Common.{sym, ◌∙◌}
use Rattle.c_records.proofs.Long.{fed_long}
use Rattle.c_records.proofs.Reported.{started}
use Rattle.c_records.proofs.examples.refuses_a_header_above_the_limit.Goals as goal

pub returns : goal.returns
returns c = λ e.
    let s = c.start_records-started.ensures in
    let f = c.feed_records-fed.ensures in
    let h = started 2 _ s.0 s.1 (sym e ∙ s.2) in
    rw (f.2, f.3) (fed_long _ _ h.held f.0 h.is h.fresh f.1)
