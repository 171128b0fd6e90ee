use Rattle.std.proofs.Common.{◌≡◌, ◌∙◌, length, arith}
use Rattle.std.proofs.lemmas.Result.{err_from_is_err_and}
use Rattle.xdr_dialect.specs.Answers.{texts}
use Rattle.xdr_dialect.specs.Private.Steps.{standing_of}
use Rattle.xdr_dialect.proofs.Joined.{front_byte, joined_step, joined_refused, joined_whole, joined_open}
use Rattle.xdr_dialect.proofs.plain.plain_text.Goals as goal

pub loop-rest-preserved : goal.loop-rest-preserved
loop-rest-preserved c =
    let rest = c.loop-rest.rest.now in
    c.loop-rest.invariant ∙ rw c.in_ok-push.ensures.items
    (joined_step (texts c.args.names.now) (standing_of c.loop-rest.standing) _ _ rest c.loop-rest.plain.items
    c.in_ok-byte.byte (standing_of c.turn.new.self) (front_byte rest c.in-len1-up.len_at_least) c.in_ok-byte.ensures)

pub returns-in_err-byte : goal.returns-in_err-byte
returns-in_err-byte c =
    let p = err_from_is_err_and c.from_residual.result c.from_residual.ensures.1 in
    let rest = c.loop-rest.rest.now in
    rw (p.1, p.2) (joined_refused (texts c.args.names.now) (standing_of c.loop-rest.standing) _ _ rest
    c.loop-rest.plain.items _ c.in_err-byte.field-0.0 (front_byte rest c.in-len1-up.len_at_least)
    c.loop-rest.invariant c.in_err-byte.ensures)

pub returns-in_err-ended : goal.returns-in_err-ended
returns-in_err-ended c =
    let p = err_from_is_err_and c.from_residual-in_err-ended.result c.from_residual-in_err-ended.ensures.1 in
    let none : length c.loop-rest.rest.now ≡ 0 = omega arith in
    rw (p.1, p.2) (joined_open (texts c.args.names.now) (standing_of c.loop-rest.standing) c.loop-rest.rest.now
    c.loop-rest.plain.items _ c.in_err-ended.field-0.0 none c.loop-rest.invariant
    (rw c.deref.ensures.value at c.in_err-ended.ensures))

pub returns : goal.returns
returns c =
    let none : length c.loop-rest.rest.now ≡ 0 = omega arith in
    joined_whole (texts c.args.names.now) (standing_of c.loop-rest.standing) c.loop-rest.rest.now
    c.loop-rest.plain.items _ none c.loop-rest.invariant (rw c.deref.ensures.value at c.in_ok-ended.ensures)
