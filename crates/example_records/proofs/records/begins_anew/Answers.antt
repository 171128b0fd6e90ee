use Rattle.std.proofs.Common.{[], ◌∷◌, refl, arith}
use Rattle.example_records.specs.Bytes.{content, marked}
use Rattle.example_records.proofs.Runs.{run_none_behind, run_none, run_whole, whole}
use Rattle.example_records.proofs.Told.{OneFront, OneStream, came, comes, marked_whole}
use Rattle.example_records.proofs.records.begins_anew.Goals as goal

pub returns : goal.returns
returns c =
    let law : OneStream = record {
      one = c.one_stream.ensures.one;
      whole = c.handed_is_the_stream.ensures.whole;
    } in
    let front : OneFront = record {
      longest = c.no_record_begins_another.ensures.longest;
      whole = c.no_record_begins_another.ensures.whole;
      no_long = c.too_long_ends_the_stream.ensures.none;
    } in
    let quiet = (came law 1001 [] [] run_none_behind c.begin_by.new.side c.take_all.new.side [] 1001
    (128 ∷ 0 ∷ 0 ∷ []) (omega arith) c.in_ok-take_all.ensures (c.begin_by.ensures c.new-side.ensures.fresh)).quiet in
    let fresh = c.let_go-left.ensures.fresh quiet.broken quiet.missing in
    let t = came law 0 [] [] run_none c.begin_by-2.new.side c.take_all-2.new.side [] 0 marked (omega arith)
    c.in_ok-take_all-2.ensures (c.begin_by-2.ensures fresh) in
    let s = comes law 0 whole marked run_whole front content marked_whole c.in_ok-step.step c.next.new.self
    c.next.new.buffer.items ((c.in_ok-step.ensures.told refl).steps 0 whole [] t) in
    (s.0, s.1)
