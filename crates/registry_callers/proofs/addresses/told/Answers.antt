use Rattle.std.proofs.Common.{sym, ap, ◌∙◌}
use Rattle.registry_callers.specs.Addresses.{address_reply}
use Rattle.registry_callers.proofs.Texts.{if_ok, told_no_text, told_text}
use Rattle.registry_callers.proofs.addresses.told.Goals as goal

pub returns-in_default-clause-tells : goal.returns-in_default-clause-tells
returns-in_default-clause-tells c =
    told_no_text c.args.host c.args.xid c.args.reply.items c.deref.result.now c.deref.ensures.value
    (λ text few e. c.in_default.ensures text few e)

pub returns-in-Some-placed-clause-tells : goal.returns-in-Some-placed-clause-tells
returns-in-Some-placed-clause-tells c =
    if_ok c.address_reply.result c.address_reply.ensures.reply (λ v is.
    told_text c.args.host c.args.xid c.args.reply.items c.deref.result.now c.deref.ensures.value c.in-Some.address.now
    v.items c.in-Some.ensures.0 c.in-Some.ensures.1 (is ∙ ap (address_reply c.args.xid) (sym c.in-Some-placed.ensures)))

pub returns-in-None-clause-tells : goal.returns-in-None-clause-tells
returns-in-None-clause-tells c =
    told_text c.args.host c.args.xid c.args.reply.items c.deref.result.now c.deref.ensures.value c.in-Some.address.now
    c.args.reply.items c.in-Some.ensures.0 c.in-Some.ensures.1
    (sym c.deref.ensures.value ∙ c.in-Some.ensures.1 ∙ ap (address_reply c.args.xid) (sym c.in-None.ensures))
