-- The stream is followed over its pieces.
use Rattle.std.proofs.Common.{[], ◌∷◌, refl, sym, ap, ◌∙◌, arith}
use Rattle.c_answers.specs.declared.outcome.Outcome.{Outcome}
use Rattle.c_records.specs.Statuses.{status_of, outcome_of}
use Rattle.c_records.proofs.Followed.{fed_first, fed_last, abc, bytes, abc_is_whole}
use Rattle.c_records.proofs.Past.{taken}
use Rattle.c_records.proofs.Reported.{started, at_first}
use Rattle.c_records.proofs.examples.hands_out_a_record_of_two_fragments.Goals as goal

pub returns : goal.returns
returns c = λ e first last.
    let n = c.no_record_begins_another.ensures in
    let l = c.too_long_ends_the_stream.ensures in
    let s = c.start_records-started.ensures in
    let f = c.feed_records-begun.ensures in
    let g = c.feed_records-fed.ensures in
    let t = c.take_record-taken.ensures in
    let h = started 3 _ s.0 s.1 (sym e ∙ s.2) in
    let a = fed_first n.apart n.longest n.whole l.ends l.none 3 abc [] (0 ∷ 0 ∷ 0 ∷ 2 ∷ 97 ∷ 98 ∷ 128 ∷ 0 ∷ [])
    (0 ∷ 1 ∷ 99 ∷ []) abc_is_whole _ _ f.0 (omega arith) (λ is. first (f.2 ∙ is))
    (at_first h) f.1 in
    let b = fed_last n.apart n.longest n.whole l.ends l.none 3 abc (0 ∷ 0 ∷ 0 ∷ 2 ∷ 97 ∷ 98 ∷ 128 ∷ 0 ∷ [])
    (0 ∷ 1 ∷ 99 ∷ []) [] abc_is_whole _ _ g.0 refl (λ is. last (g.2 ∙ is)) a.1 g.1 in
    let k = taken 3 bytes [] abc _ _ _ _ t.0 b.1 t.1 c.requires in (
      f.2 ∙ ap status_of a.0,
      g.2 ∙ ap status_of b.0,
      ap (λ (o : Outcome). o.at) (g.3 ∙ ap outcome_of b.0),
      t.2 ∙ ap status_of k.0,
      t.3 ∙ ap outcome_of k.0,
      k.1,
    )
