use Rattle.std.proofs.Common.{rules, ◌<◌, arith}
use Rattle.oncrpc_call.proofs.Dots.{no_number, no_octet, number_is, octet_found, too_large}
use Rattle.oncrpc_call.proofs.uaddr6.last_octet.Goals as goal

pub returns-in_err-front-clause-only : goal.returns-in_err-front-clause-only
returns-in_err-front-clause-only c = search (rules, no_octet)

pub returns-in_err-number-clause-only : goal.returns-in_err-number-clause-only
returns-in_err-number-clause-only c = λ f n small e.
    absurd (no_number c.args.text.now c.in_ok-front.front.now c.in_ok-front.part.now c.in_ok-front.ensures.0
    c.in_ok-front.ensures.1 c.in_err-number.ensures.only f n small e)

pub returns-then-number-lt256-clause-found : goal.returns-then-number-lt256-clause-found
returns-then-number-lt256-clause-found c =
    octet_found c.args.text.now c.in_ok-front.front.now c.in_ok-front.part.now c.in_ok-front.ensures.0
    c.in_ok-front.ensures.1 c.in_ok-number.number c.in_ok-number.ensures.found

pub returns-then-number-lt256-clause-only : goal.returns-then-number-lt256-clause-only
returns-then-number-lt256-clause-only c =
    number_is c.args.text.now c.in_ok-front.front.now c.in_ok-front.part.now c.in_ok-front.ensures.0
    c.in_ok-front.ensures.1 c.in_ok-number.number c.in_ok-number.ensures.only

pub returns-else-number-lt256-clause-only : goal.returns-else-number-lt256-clause-only
returns-else-number-lt256-clause-only c =
    let large = c.if-number-lt256.false in
    too_large c.args.text.now c.in_ok-front.front.now c.in_ok-front.part.now c.in_ok-front.ensures.0
    c.in_ok-front.ensures.1 c.in_ok-number.number (λ (small : c.in_ok-number.number < 256). omega (arith, large, small))
    c.in_ok-number.ensures.only
