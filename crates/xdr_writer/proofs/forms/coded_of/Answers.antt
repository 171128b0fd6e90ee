use Rattle.std.proofs.Common.{subst}
use Rattle.xdr_due.specs.Due.{IsDue}
use Rattle.xdr_due.specs.declared.due.Due.{Due}
use Rattle.xdr_writer.specs.Items.{item_view}
use Rattle.xdr_writer.proofs.Becoming.{node_becomes, hyper_becomes, content_becomes, never_low}
use Rattle.xdr_writer.proofs.forms.coded_of.Goals as goal

pub returns-in-Unit : goal.returns-in-Unit
returns-in-Unit c = λ root l b e units due some p.
    let s = c.args.schema.now.kinds in
    node_becomes s root l b units e p c.in-Unit.id.place (item_view c.args.item) c.node_item.result
    (subst (λ (d : Due). IsDue s root l b d) c.in-Unit.is due) c.node_item.ensures

pub returns-in-Content : goal.returns-in-Content
returns-in-Content c = λ root l b e units due some p.
    let s = c.args.schema.now.kinds in
    content_becomes s root l b units e p c.in-Content.size (item_view c.args.item) c.fixed_item.result
    (subst (λ (d : Due). IsDue s root l b d) c.in-Content.is due) (λ limit more. c.fixed_item.ensures s limit more)

pub returns-in-Hyper : goal.returns-in-Hyper
returns-in-Hyper c = λ root l b e units due some p.
    let s = c.args.schema.now.kinds in
    hyper_becomes s root l b units e p c.in-Hyper.signed (item_view c.args.item) c.hyper_item.result
    (subst (λ (d : Due). IsDue s root l b d) c.in-Hyper.is due) (c.hyper_item.ensures s)

pub returns-in-Low : goal.returns-in-Low
returns-in-Low c = λ root l b e units due some p form.
    let s = c.args.schema.now.kinds in
    never_low s root l b units e p c.in-Low.field-0 (subst (λ (d : Due). IsDue s root l b d) c.in-Low.is due)
