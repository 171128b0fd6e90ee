-- Three bytes are less than a header, and no record.
use Rattle.std.proofs.Common.{◌≡◌, ℕ, ◌⊎◌, inl, inr, List, [], ◌∷◌, sym, ap, ◌∙◌, Option, arith}
use Rattle.c_records.specs.declared.answer.Answer.{Answer}
use Rattle.c_records.specs.declared.answer.Answer.TheVariants as answer
use Rattle.c_records.specs.Held.{Held}
use Rattle.c_records.specs.Ended.{IsEndedBy}
use Rattle.c_records.specs.Statuses.{status_of, outcome_of}
use Rattle.c_records.proofs.Closed.{fed_short, ends_cut, not_whole}
use Rattle.c_records.proofs.Reported.{IsAt, started, at_first}
use Rattle.c_records.proofs.examples.reports_where_a_stream_is_cut.Goals as goal

abbrev bytes : List ℕ
bytes = 128 ∷ 0 ∷ 0 ∷ []

abbrev IsReported : (a b : Answer) → Type 0
IsReported a b =
    (status_of a ≡ 6)
    ⊎ ((status_of a ≡ 23) × (status_of b ≡ 2)
    × (outcome_of b ≡ record { at = 3; line = 0; column = 0; why = 8; inner = 0 }))

reported : (held left : Option Held) (a b : Answer)
    → (status_of a ≡ 6) ⊎ ((a ≡ answer.More) × IsAt 100 bytes [] held)
    → IsEndedBy held left b → IsReported a b
reported held left a b (inl e) d = inl e
reported held left a b (inr t) d =
    let e = ends_cut 100 bytes [] held left b t.1 (not_whole 100 bytes (omega arith)) d in
    inr (ap status_of t.0, ap status_of e, ap outcome_of e)

pub returns : goal.returns
returns c = λ e.
    let s = c.start_records-started.ensures in
    let f = c.feed_records-fed.ensures in
    let d = c.end_records-ended.ensures in
    let h = started 100 _ s.0 s.1 (sym e ∙ s.2) in
    rw (f.2, d.2, d.3) (reported _ _ f.0 d.0 (fed_short 100 bytes _ _ f.0 (omega arith) (at_first h) f.1) d.1)
