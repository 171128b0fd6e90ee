use Rattle.std.proofs.Common.{[], ◌∷◌, refl, arith}
use Rattle.example_records.specs.Bytes.{content, marked}
use Rattle.example_records.proofs.Runs.{over, run_none, run_over, run_six, six}
use Rattle.example_records.proofs.Told.{OneFront, OneStream, came, comes, marked_whole, waits}
use Rattle.example_records.proofs.records.first_one_wins.Goals as goal

pub returns : goal.returns
returns c =
    let law : OneStream = record {
      one = c.one_stream.ensures.one;
      whole = c.handed_is_the_stream.ensures.whole;
    } in
    let front : OneFront = record {
      longest = c.no_record_begins_another.ensures.longest;
      whole = c.no_record_begins_another.ensures.whole;
      no_long = c.too_long_ends_the_stream.ensures.none;
    } in
    let t = came law 0 [] [] run_none c.begin_by.new.side c.take_all.new.side [] 0
    (128 ∷ 0 ∷ 0 ∷ 4 ∷ 1 ∷ 2 ∷ []) (omega arith) c.in_ok-take_all.ensures
    (c.begin_by.ensures c.new-side.ensures.fresh) in
    let u = came law 0 six (128 ∷ 0 ∷ 0 ∷ 4 ∷ 1 ∷ 2 ∷ []) run_six c.take_all.new.side c.take_all-2.new.side [] 4
    (9 ∷ 9 ∷ 3 ∷ 4 ∷ []) (omega arith) c.in_ok-take_all-2.ensures t in
    let s = comes law 0 over marked run_over front content marked_whole c.in_ok-step.step c.next.new.self
    c.next.new.buffer.items ((c.in_ok-step.ensures.told refl).steps 0 over [] u) in
    let w = waits law 0 over marked run_over front (content ∷ []) marked_whole c.in_ok-then.then
    c.next-2.new.self c.next-2.new.buffer.items
    ((c.in_ok-then.ensures.told refl).steps 0 over (content ∷ []) s.2) in
    (s.0, s.1, w.0)
