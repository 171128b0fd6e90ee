use Rattle.std.proofs.Common.{[], refl, subst, arith}
use Rattle.capture_records.specs.Exact.{IsToldBy}
use Rattle.capture_records.specs.declared.step.Step.{Step}
use Rattle.example_records.specs.Bytes.{long_header}
use Rattle.example_records.proofs.Runs.{long, run_long, run_none}
use Rattle.example_records.proofs.Told.{OneStream, came, header_long, none_told}
use Rattle.example_records.proofs.limit.none_above_the_limit.Goals as goal

pub returns : goal.returns
returns c =
    let law : OneStream = record {
      one = c.one_stream.ensures.one;
      whole = c.handed_is_the_stream.ensures.whole;
    } in
    let old = c.take_all.new.side in
    let new = c.next.new.self in
    let r = c.next.new.buffer.items in
    let t = came law 0 [] [] run_none c.begin_by.new.side old [] 0 long_header (omega arith)
    c.in_ok-take_all.ensures (c.begin_by.ensures c.new-side.ensures.fresh) in
    λ record_is. none_told law 0 long long_header run_long c.too_long_ends_the_stream.ensures.ends new 0 r header_long
    (subst (λ (k : Step). IsToldBy k new 0 long [] r) record_is ((c.in_ok-step.ensures.told refl).steps 0 long [] t))
