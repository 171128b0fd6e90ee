use Rattle.std.proofs.Common.{◌<◌, ◌≤◌, ◌-◌, length, refl, arith}
use Rattle.std.proofs.lemmas.List.{take_all}
use Rattle.xdr_io.proofs.Chained.{Counts-trans, Counts-none, Counts-nothing, Counts-some, Appends-none, Appends-piece}
use Rattle.xdr_io.proofs.Chained.{Appends-then_retained, length_rest}
use Rattle.xdr_io.proofs.whole.write_whole.Goals as goal

pub loop-written-init : goal.loop-written-init
loop-written-init g c = record { within = omega arith; wrote = Appends-none _; none_failed = Counts-none _ }

pub loop-written-preserved : goal.loop-written-preserved
loop-written-preserved g c =
    let at = c.loop-written.written in
    let bytes = c.args.bytes.now in
    let some : 0 < length bytes - at = omega arith in
    record {
      within = omega (arith, c.in-Ok.ensures.bound, length_rest at bytes);
      wrote = Appends-piece _ _ _ at c.in-Ok.n _ bytes refl c.loop-written.invariant.wrote c.in-Ok.ensures.bytes;
      none_failed = Counts-trans _ _ _ 0 0 0 refl c.loop-written.invariant.none_failed
          (Counts-some _ _ c.in-Ok.n _ c.in-Ok.n-test.1 c.in-Ok.ensures.failed);
    }

pub returns-in-Ok-eq0-clause-cut : goal.returns-in-Ok-eq0-clause-cut
returns-in-Ok-eq0-clause-cut g c =
    let at = c.loop-written.written in (
      omega arith,
      Appends-piece _ _ _ at c.in-Ok-eq0.field-0 at c.args.bytes.now
          (omega arith) c.loop-written.invariant.wrote c.in-Ok-eq0.ensures.bytes,
    )

pub returns-in-Ok-eq0-clause-one_failed : goal.returns-in-Ok-eq0-clause-one_failed
returns-in-Ok-eq0-clause-one_failed g c =
    let at = c.loop-written.written in
    Counts-trans _ _ _ 0 1 1 refl c.loop-written.invariant.none_failed
    (Counts-nothing _ _ c.in-Ok-eq0.field-0 _ c.in-Ok-eq0.field-0-test
    (omega (arith, length_rest at c.args.bytes.now)) c.in-Ok-eq0.ensures.failed)

pub returns-in-Err-clause-cut : goal.returns-in-Err-clause-cut
returns-in-Err-clause-cut g c =
    (omega arith, Appends-then_retained _ _ _ _ c.loop-written.invariant.wrote c.in-Err.ensures.bytes)

pub returns-in-Err-clause-one_failed : goal.returns-in-Err-clause-one_failed
returns-in-Err-clause-one_failed g c =
    Counts-trans _ _ _ 0 1 1 refl c.loop-written.invariant.none_failed c.in-Err.ensures.failed

pub returns-clause-ok : goal.returns-clause-ok
returns-clause-ok g c =
    let all : length c.args.bytes.now ≤ c.loop-written.written = omega arith in
    rw take_all at c.loop-written.invariant.wrote
