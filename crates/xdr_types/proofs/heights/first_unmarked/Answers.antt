use Rattle.std.proofs.Common.{◌<◌, arith, length}
use Rattle.xdr_types.proofs.Marks.{none-read}
use Rattle.xdr_types.proofs.heights.first_unmarked.Goals as goal

pub returns-then-is_none : goal.returns-then-is_none
returns-then-is_none c =
    let hs = c.args.heights.now in
    let within : c.loop-place.place < length hs.items =
    omega (arith, c.loop-place-test.true, c.len-place-end.ensures, hs.ok.0) in
    record {
      within = within;
      none = none-read hs.items c.loop-place.place c.index.result.now within c.index.ensures c.if-is_none.ensures;
      before = c.loop-place.invariant;
    }

pub returns : goal.returns
returns c = λ place h. c.loop-place.invariant place
    (omega (arith, h, c.loop-place-test.false, c.len-place-end.ensures, c.args.heights.now.ok.0))
