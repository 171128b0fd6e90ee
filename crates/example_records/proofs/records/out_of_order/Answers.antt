use Rattle.std.proofs.Common.{[], ◌∷◌, refl, arith}
use Rattle.rpc_record.proofs.Streams.{whole_none}
use Rattle.capture_records.specs.declared.finding.TheConstants.{MOST_RECORD}
use Rattle.example_records.specs.Bytes.{content, marked}
use Rattle.example_records.proofs.Runs.{both, run_both, run_none, run_second, second}
use Rattle.example_records.proofs.Told.{OneFront, OneStream, came, comes, marked_whole, waits}
use Rattle.example_records.proofs.records.out_of_order.Goals as goal

pub returns : goal.returns
returns c =
    let law : OneStream = record {
      one = c.one_stream.ensures.one;
      whole = c.handed_is_the_stream.ensures.whole;
    } in
    let front : OneFront = record {
      longest = c.no_record_begins_another.ensures.longest;
      whole = c.no_record_begins_another.ensures.whole;
      no_long = c.too_long_ends_the_stream.ensures.none;
    } in
    let t = came law 0 [] [] run_none c.begin_by.new.side c.take_all.new.side [] 4 (1 ∷ 2 ∷ 3 ∷ 4 ∷ [])
    (omega arith) c.in_ok-take_all.ensures (c.begin_by.ensures c.new-side.ensures.fresh) in
    let w = waits law 0 second [] run_second front [] (whole_none MOST_RECORD) c.in_ok-before.before c.next.new.self
    c.next.new.buffer.items ((c.in_ok-before.ensures.told refl).steps 0 second [] t) in
    let u = came law 0 second [] run_second c.next.new.self c.take_all-2.new.side [] 0 (128 ∷ 0 ∷ 0 ∷ 4 ∷ [])
    (omega arith) c.in_ok-take_all-2.ensures w.1 in
    let s = comes law 0 both marked run_both front content marked_whole c.in_ok-step.step c.next-2.new.self
    c.next-2.new.buffer.items ((c.in_ok-step.ensures.told refl).steps 0 both [] u) in
    (w.0, s.0, s.1)
