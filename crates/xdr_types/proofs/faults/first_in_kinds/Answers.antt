use Rattle.std.proofs.Common.{◌≡◌, ◌<◌, List, map, length, get_or, ap, ◌∙◌, sym, subst}
use Rattle.xdr_types.specs.KindViews.{kind_view}
use Rattle.xdr_types.specs.Faults.{kind_flaw, kind_flaw_at}
use Rattle.xdr_types.specs.declared.kind.Kind.{Kind}
use Rattle.xdr_types.proofs.Flawless.{one-more}
use Rattle.xdr_types.proofs.Marks.{kind-read}
use Rattle.xdr_types.proofs.faults.first_in_kinds.Goals as goal

pub loop-place-preserved : goal.loop-place-preserved
loop-place-preserved c =
    let forms = map kind_view c.args.kinds.now.items in
    let within : c.loop-place.place < length c.args.kinds.now.items =
    subst (λ (z : List Kind). c.loop-place.place < length z) c.deref-kind-items.ensures.value c.loop-place-test.true in
    let is : c.kind-item.result ≡ get_or c.args.kinds.now.items c.loop-place.place c.kind-item.result =
    c.kind-item.is ∙ ap (λ (z : List Kind). get_or z c.loop-place.place c.kind-item.result)
    c.deref-kind-items.ensures.value in
    one-more (kind_flaw_at forms) c.loop-place.place c.loop-place.invariant
    (ap (kind_flaw forms) (kind-read c.args.kinds.now.items c.loop-place.place c.kind-item.result within is)
    ∙ sym c.kind_flaw.ensures ∙ c.in_default.is)
