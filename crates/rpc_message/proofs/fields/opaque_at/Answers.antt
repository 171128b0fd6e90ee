use Rattle.std.proofs.Common.{rules, arith, subst}
use Rattle.xdr_units.specs.declared.units.NoContent.{NoContent}
use Rattle.xdr_units.specs.Fronts.{IsNoContent}
use Rattle.rpc_message.proofs.ContentLaws.{content_found, padding_wrong, content_cut, padding_cut_wrong}
use Rattle.rpc_message.proofs.fields.opaque_at.Goals as goal

pub returns-in-Ok : goal.returns-in-Ok
returns-in-Ok c =
    content_found c.args.most c.in_ok-count.count c.args.bytes.now c.in_ok-count.rest.now c.in-Ok.content.now
    c.in-Ok.after.now
    c.in_ok-count.ensures (omega (arith, c.if-most-count.false)) c.in-Ok.ensures.found.0 c.in-Ok.ensures.found.1

pub returns-in-Err-BadPadding : goal.returns-in-Err-BadPadding
returns-in-Err-BadPadding c =
    padding_wrong c.args.most c.in_ok-count.count c.args.bytes.now c.in_ok-count.rest.now
    c.in_ok-count.ensures (omega (arith, c.if-most-count.false))
    (subst (λ (why : NoContent). IsNoContent why c.in_ok-count.count c.in_ok-count.rest.now)
    c.in-Err-BadPadding.field-0-is c.in-Err-BadPadding.ensures.found)

pub returns-then-is_zero_behind : goal.returns-then-is_zero_behind
returns-then-is_zero_behind c =
    content_cut c.args.most c.in_ok-count.count c.args.bytes.now c.in_ok-count.rest.now
    c.in_ok-count.ensures (omega (arith, c.if-most-count.false))
    (subst (λ (why : NoContent). IsNoContent why c.in_ok-count.count c.in_ok-count.rest.now)
    c.in-Err-Truncated.field-0-is c.in-Err-Truncated.ensures.found)
    (search rules)

pub returns-else-is_zero_behind : goal.returns-else-is_zero_behind
returns-else-is_zero_behind c =
    padding_cut_wrong c.args.most c.in_ok-count.count c.args.bytes.now c.in_ok-count.rest.now
    c.in_ok-count.ensures (omega (arith, c.if-most-count.false))
    (subst (λ (why : NoContent). IsNoContent why c.in_ok-count.count c.in_ok-count.rest.now)
    c.in-Err-Truncated.field-0-is c.in-Err-Truncated.ensures.found)
    (search rules)
