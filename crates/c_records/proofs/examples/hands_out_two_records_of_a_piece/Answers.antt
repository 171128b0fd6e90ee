-- The stream is followed from record to record.
use Rattle.std.proofs.Common.{[], ◌∷◌, ◌++◌, sym, ap, ◌∙◌, arith}
use Rattle.rpc_record.proofs.Streams.{whole_none}
use Rattle.c_answers.specs.declared.outcome.Outcome.{Outcome}
use Rattle.c_records.specs.Statuses.{status_of, outcome_of}
use Rattle.c_records.proofs.Next.{fed_next, one, empty, one_marked, empty_marked, one_whole, both_whole}
use Rattle.c_records.proofs.Past.{taken}
use Rattle.c_records.proofs.Reported.{started, at_first}
use Rattle.c_records.proofs.examples.hands_out_two_records_of_a_piece.Goals as goal

pub returns : goal.returns
returns c = λ e first second.
    let s = c.start_records-started.ensures in
    let f = c.feed_records-fed.ensures in
    let t = c.take_record-taken.ensures in
    let g = c.feed_records-next.ensures in
    let short = c.too_long_ends_the_stream.ensures.none 1 ((97 ∷ []) ∷ [] ∷ []) (one ++ empty) both_whole in
    let h = started 1 _ s.0 s.1 (sym e ∙ s.2) in
    let a = fed_next 1 [] (97 ∷ []) [] one empty (whole_none 1) one_marked (omega arith) short _ _ f.0
    (λ is. first (f.2 ∙ is)) (at_first h) f.1 in
    let k = taken 1 one [] (97 ∷ []) _ _ _ _ t.0 a.1 t.1 c.requires in
    let b = fed_next 1 ((97 ∷ []) ∷ []) [] one empty [] one_whole empty_marked (omega arith) short _ _ g.0
    (λ is. second (g.2 ∙ is)) k.2 g.1 in (
      f.2 ∙ ap status_of a.0,
      ap (λ (o : Outcome). o.at) (f.3 ∙ ap outcome_of a.0),
      t.2 ∙ ap status_of k.0,
      k.1,
      g.2 ∙ ap status_of b.0,
      g.3 ∙ ap outcome_of b.0,
    )
