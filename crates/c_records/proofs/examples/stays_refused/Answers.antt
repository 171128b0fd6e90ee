-- The fault is followed through the three calls.
use Rattle.std.proofs.Common.{sym, ap, ◌∙◌}
use Rattle.c_records.specs.Statuses.{status_of, outcome_of}
use Rattle.c_records.proofs.Reported.{IsStuck, refuses, none_taken, fed_again, ended_again}
use Rattle.c_records.proofs.examples.stays_refused.Goals as goal

pub returns : goal.returns
returns c = λ which.
    let f = c.feed_records-fed.ensures in
    let t = c.take_record-taken.ensures in
    let g = c.feed_records-fed_again.ensures in
    let d = c.end_records-ended.ensures in
    let r = refuses _ _ _ f.0 f.1 (rw f.2 at which) in
    let k = none_taken _ _ r.stuck.reader _ _ t.0 r.stuck.is r.stuck.broken.0 t.1 in
    let s : IsStuck _ r.fault = record { reader = r.stuck.reader; is = k.held; broken = r.stuck.broken } in
    let a = fed_again _ _ _ r.fault g.0 s g.1 in
    let b = ended_again _ _ r.fault d.0 a.1 d.1 in (
      t.2 ∙ ap status_of k.answer,
      k.buffer,
      g.2 ∙ ap status_of (a.0 ∙ sym r.answer) ∙ sym f.2,
      g.3 ∙ ap outcome_of (a.0 ∙ sym r.answer) ∙ sym f.3,
      d.2 ∙ ap status_of (b ∙ sym r.answer) ∙ sym f.2,
      d.3 ∙ ap outcome_of (b ∙ sym r.answer) ∙ sym f.3,
    )
