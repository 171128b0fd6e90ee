use Rattle.std.proofs.Common.{◌<◌, length, get_or, drop, suc, drop-cons}
use Rattle.xdr_tokens.proofs.Numbers.{too_large}
use Rattle.xdr_tokens.proofs.number.digits.Goals as goal

pub returns-then-next : goal.returns-then-next
returns-then-next c =
    let text = c.args.text.now in
    let i = c.loop-byte.byte-index in
    let lt : i < length text = c.loop-byte-test.true in
    too_large c.args.base c.loop-byte.value c.in_ok-digit.digit (get_or text i 0)
    (drop (suc i) text) text c.requires.low c.in_ok-digit.ensures c.if-next.true
    (rw (drop-cons text i 0) at c.loop-byte.invariant)
