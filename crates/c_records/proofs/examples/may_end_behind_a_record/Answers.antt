-- The reader is followed past the record.
use Rattle.std.proofs.Common.{sym, ap, ◌∙◌, [], ◌∷◌}
use Rattle.c_records.specs.Statuses.{status_of, outcome_of}
use Rattle.c_records.proofs.Closed.{has_read, ends_well, none_behind}
use Rattle.c_records.proofs.Past.{past}
use Rattle.c_records.proofs.Reported.{started, at_first}
use Rattle.c_records.proofs.examples.may_end_behind_a_record.Goals as goal

pub returns : goal.returns
returns c = λ e fed taken.
    let s = c.start_records-started.ensures in
    let f = c.feed_records-fed.ensures in
    let t = c.take_record-taken.ensures in
    let d = c.end_records-ended.ensures in
    let h = started 100 _ s.0 s.1 (sym e ∙ s.2) in
    let w = has_read 100 _ _ _ f.0 (at_first h) f.1 (sym fed ∙ f.2) in
    let p = past 100 w.bytes [] w.content _ _ _ _ t.0 w.waiting t.1 (sym taken ∙ t.2) in
    let b = ends_well 100 w.bytes (w.content ∷ []) _ _ d.0 p
    (none_behind c.no_record_begins_another.ensures.apart 100 w.content w.bytes w.whole) d.1 in
    (d.2 ∙ ap status_of b, d.3 ∙ ap outcome_of b)
