use Rattle.std.proofs.Common.{◌≡◌, ◌<◌, ◌+◌, ℤ, pos, [], ◌∷◌, length, drop, drop-cons, add-one, get_or, refl, arith}
use Rattle.xdr_lang.specs.Distinct.{repeats, same_pair}
use Rattle.xdr_lang.proofs.Sets.{was_absent, was_there, by_pair, goes_on, is_twice}
use Rattle.xdr_lang.proofs.distinct.pairs_repeat.Goals as goal

pub returns-then-not-branch : goal.returns-then-not-branch
returns-then-not-branch c =
    let d : ℤ × ℤ = (pos 0, pos 0) in
    let lt : c.loop-pair.pair-index < length c.args.pairs.now = omega arith in
    let cut : drop c.loop-pair.pair-index c.args.pairs.now ≡ get_or c.args.pairs.now c.loop-pair.pair-index d ∷ drop
    (c.loop-pair.pair-index + 1) c.args.pairs.now = rw
    (add-one, drop-cons c.args.pairs.now c.loop-pair.pair-index d) refl in
    let so_far : repeats same_pair c.loop-pair.before.keys
    (drop c.loop-pair.pair-index c.args.pairs.now) ≡ repeats same_pair [] c.args.pairs.now = c.loop-pair.invariant in
    is_twice by_pair c.loop-pair.before (get_or c.args.pairs.now c.loop-pair.pair-index d)
    (drop (c.loop-pair.pair-index + 1) c.args.pairs.now) (repeats same_pair [] c.args.pairs.now)
    (was_there _ _ c.in_ok-insert.ensures.added c.if-not-branch.true) (rw cut at so_far)

pub loop-pair-preserved : goal.loop-pair-preserved
loop-pair-preserved c =
    let d : ℤ × ℤ = (pos 0, pos 0) in
    let lt : c.loop-pair.pair-index < length c.args.pairs.now = omega arith in
    let cut : drop c.loop-pair.pair-index c.args.pairs.now ≡ get_or c.args.pairs.now c.loop-pair.pair-index d ∷ drop
    (c.loop-pair.pair-index + 1) c.args.pairs.now = rw
    (add-one, drop-cons c.args.pairs.now c.loop-pair.pair-index d) refl in
    let so_far : repeats same_pair c.loop-pair.before.keys
    (drop c.loop-pair.pair-index c.args.pairs.now) ≡ repeats same_pair [] c.args.pairs.now = c.loop-pair.invariant in
    goes_on by_pair c.loop-pair.before c.insert.new.self (get_or c.args.pairs.now c.loop-pair.pair-index d)
    (drop (c.loop-pair.pair-index + 1) c.args.pairs.now) (repeats same_pair [] c.args.pairs.now)
    (was_absent _ _ c.in_ok-insert.ensures.added c.if-not-branch.false) c.in_ok-insert.ensures.updates
    (rw cut at so_far)
