-- What the fresh reader says is what it says behind the call that took no record.
use Rattle.std.proofs.Common.{sym, ap, ◌∙◌, []}
use Rattle.c_records.specs.Statuses.{status_of, outcome_of}
use Rattle.c_records.proofs.Closed.{ends_well, not_inside}
use Rattle.c_records.proofs.Reported.{IsAt, started, none_taken}
use Rattle.c_records.proofs.examples.ends_well_before_the_first_byte.Goals as goal

pub returns : goal.returns
returns c = λ e.
    let s = c.start_records-started.ensures in
    let t = c.take_record-taken.ensures in
    let d = c.end_records-ended.ensures in
    let h = started 100 _ s.0 s.1 (sym e ∙ s.2) in
    let k = none_taken _ _ h.held _ _ t.0 h.is h.fresh.taking.0 t.1 in
    let at : IsAt 100 [] [] _ = record {
      reader = h.held;
      is = k.held;
      limit_is = h.fresh.limit;
      taking = h.fresh.taking;
      represents = h.fresh.represents;
    } in
    let w = ends_well 100 [] [] _ _ d.0 at (not_inside 100) d.1 in
    (t.2 ∙ ap status_of k.answer, k.buffer, d.2 ∙ ap status_of w, d.3 ∙ ap outcome_of w)
