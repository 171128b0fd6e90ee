-- What a node shows, by how its kind begins.
use Rattle.std.proofs.Common.{sym, ap, subst, ◌∙◌}
use Rattle.std.proofs.lemmas.List.{take_rest}
use Rattle.xdr_types.specs.Kinds.{KindView}
use Rattle.xdr_types.specs.KindViews.{kind_view}
use Rattle.xdr_types.specs.Tree as value
use Rattle.xdr_types.specs.Fits.{parts}
use Rattle.xdr_laws.specs.Owed.{lead_of, IsSilent, silent_head}
use Rattle.xdr_parts.specs.declared.part.Role.TheVariants.{Number, Content}
use Rattle.xdr_cursor.specs.declared.frame.Frame.TheVariants.{Fields, Items}
use Rattle.xdr_cursor.proofs.Showing.{shows_unit, shows_group, shows_nothing, wide_free, content_free, free_shown}
use Rattle.xdr_cursor.proofs.shown.shown_at.Goals as goal

pub returns-in-Some-clause-shown : goal.returns-in-Some-clause-shown
returns-in-Some-clause-shown c =
    λ p ps fs es o.
    shows_unit c.args.schema.now.kinds c.args.id.place c.args.bytes.now c.args.at p ps fs es o
    (kind_view c.kind-kind.result.now) c.kind-kind.ensures c.in-Unit.ensures c.in-Some.number c.in-Some.ensures.fits
    c.in-Some.field-0-1.now (sym (take_rest c.args.bytes.now c.args.at) ∙ c.in-Some.ensures.found) c.unit_shown.result
    c.unit_shown.ensures

pub returns-in-Fields-clause-shown : goal.returns-in-Fields-clause-shown
returns-in-Fields-clause-shown c =
    λ p ps fs es o.
    let is = c.kind-kind.ensures in
    let same = c.in-Fields.ensures in
    shows_group c.args.schema.now.kinds c.args.id.place c.args.bytes.now c.args.at p ps fs es o
    (kind_view c.kind-kind.result.now) is (Fields c.args.id 0)
    (subst (λ (f : KindView). IsSilent (lead_of f)) (sym same) tt)
    (ap (λ (f : KindView). parts f (silent_head f)) same
    ∙ sym (ap (λ (f : KindView). parts f value.fields) (sym is ∙ same)))

pub returns-in-Items-clause-shown : goal.returns-in-Items-clause-shown
returns-in-Items-clause-shown c =
    λ p ps fs es o.
    let same = c.in-Items.ensures in
    shows_group c.args.schema.now.kinds c.args.id.place c.args.bytes.now c.args.at p ps fs es o
    (kind_view c.kind-kind.result.now) c.kind-kind.ensures (Items c.in-Items.item c.in-Items.size)
    (subst (λ (f : KindView). IsSilent (lead_of f)) (sym same) tt)
    (ap (λ (f : KindView). parts f (silent_head f)) same)

pub returns-in-Void-clause-shown : goal.returns-in-Void-clause-shown
returns-in-Void-clause-shown c =
    λ p ps fs es o.
    shows_nothing c.args.schema.now.kinds c.args.id.place c.args.bytes.now c.args.at p ps fs es o
    (kind_view c.kind-kind.result.now) c.kind-kind.ensures c.in-Void.ensures

pub returns-in-Wide-clause-shown : goal.returns-in-Wide-clause-shown
returns-in-Wide-clause-shown c =
    let k = kind_view c.kind-kind.result.now in
    free_shown c.args.schema.now.kinds c.args.id.place c.args.bytes.now c.args.at k c.kind-kind.ensures Number 8
    (wide_free k c.in-Wide.field-0 c.in-Wide.ensures) _ (take_rest c.args.bytes.now c.args.at) c.leaf.result
    c.leaf.ensures

pub returns-in-Content-clause-shown : goal.returns-in-Content-clause-shown
returns-in-Content-clause-shown c =
    let k = kind_view c.kind-kind.result.now in
    free_shown c.args.schema.now.kinds c.args.id.place c.args.bytes.now c.args.at k c.kind-kind.ensures Content
    c.in-Content.size (content_free k c.in-Content.size c.in-Content.ensures) _
    (take_rest c.args.bytes.now c.args.at) c.leaf-in-Content.result c.leaf-in-Content.ensures
