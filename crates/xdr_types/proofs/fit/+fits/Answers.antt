use Rattle.std.proofs.Common.{◌≡◌, ◌<◌, Bool, true, ◌&&◌, List, [], ◌∷◌, length, get_or, ap, sym, ◌∙◌, subst}
use Rattle.std.proofs.Common.{arith, nat_le, refl, Some, is_some, replicate, rules, ◌-◌}
use Rattle.std.proofs.lemmas.Int.{to_z-of_z}
use Rattle.xdr_types.specs.Kinds.{KindView, kind_at}
use Rattle.xdr_types.specs.KindViews.{kind_view, part_of_member}
use Rattle.xdr_types.specs.Tree.{tag, present, depth_of, from_list}
use Rattle.xdr_types.specs.Fits.{item_part, parts, part_in, optional_part, is_legal, is_tag_of}
use Rattle.xdr_types.specs.Private.Judged.{fit_within, fits_within}
use Rattle.xdr_types.specs.declared.kind.Kind.TheVariants as kinds
use Rattle.std.proofs.lemmas.Bool.{and_from as both_of}
use Rattle.xdr_types.specs.View.{tree, values}
use Rattle.xdr_types.specs.declared.value.Value.{Value, the_lemmas}
use Rattle.xdr_types.proofs.Views.{tree-Choice, tree-Some}
use Rattle.xdr_types.proofs.Fitting.{fit-lengths}
use Rattle.xdr_types.proofs.Joining.{values-at, items-at, fields-at}
use Rattle.xdr_types.proofs.Judging.{none-within, rest-within, one-below}
use Rattle.xdr_types.proofs.fit.+fits.Goals as goal

pub each_is_value-returns-then-len : goal.each_is_value-returns-then-len
each_is_value-returns-then-len t c =
    let fields = c.args.fields.now in
    let parts = c.args.parts.now in
    sym (ap (λ (b : Bool). b && nat_le (depth_of (values parts.items)) c.args.most)
    (fit-lengths c.args.schema.now.kinds fields.items parts.items
    (λ e. c.if-len.true (omega (arith, e, fields.ok.0, parts.ok.0)))))

pub are_values-returns-then-not-is_value : goal.are_values-returns-then-not-is_value
are_values-returns-then-not-is_value t c =
    let S = c.args.schema.now.kinds in
    let vs : List Value = c.deref-value-items.result.now in
    let item = item_part c.args.id.place in
    let whole = ap (λ (z : List Value). fit_within S (replicate (length z) item) (values z) c.args.most)
    c.deref-value-items.ensures.value in
    none-within S item _ _ (tree c.value-item.result) _ _ c.args.most _
    (items-at item vs c.loop-value.value-index c.value-item.result c.loop-value-test.true)
    (values-at vs c.loop-value.value-index c.value-item.result c.loop-value-test.true c.value-item.is)
    (c.loop-value.invariant ∙ whole) (sym c.is_value.ensures ∙ c.if-not-is_value.true)

pub are_values-loop-value-preserved : goal.are_values-loop-value-preserved
are_values-loop-value-preserved t c =
    let S = c.args.schema.now.kinds in
    let vs : List Value = c.deref-value-items.result.now in
    let item = item_part c.args.id.place in
    rest-within S item _ _ (tree c.value-item.result) _ _ c.args.most _
    (items-at item vs c.loop-value.value-index c.value-item.result c.loop-value-test.true)
    (values-at vs c.loop-value.value-index c.value-item.result c.loop-value-test.true c.value-item.is)
    c.loop-value.invariant (sym c.is_value.ensures ∙ c.if-not-is_value.false)

pub each_is_value-returns-then-not-is_value : goal.each_is_value-returns-then-not-is_value
each_is_value-returns-then-not-is_value t c =
    let S = c.args.schema.now.kinds in
    let fields = c.args.fields.now in
    let inner = c.args.parts.now in
    let m = c.index.result.now in
    let here : c.loop-i.i < length inner.items = omega
    (arith, c.loop-i-test.true, inner.ok.0, c.deref-value-items.ensures.len) in
    let more = fields-at fields.items c.loop-i.i m (omega (arith, here, c.loop-i.invariant.lengths)) c.index.ensures in
    let next = values-at inner.items c.loop-i.i c.value-item.result here
    (c.value-item.is ∙ ap (λ (z : List Value). get_or z c.loop-i.i c.value-item.result)
    c.deref-value-items.ensures.value) in
    none-within S (part_of_member m) _ _ (tree c.value-item.result) _ _ c.args.most _ more next
    c.loop-i.invariant.rest (sym c.is_value.ensures ∙ c.if-not-is_value.true)

pub each_is_value-loop-i-preserved : goal.each_is_value-loop-i-preserved
each_is_value-loop-i-preserved t c =
    let S = c.args.schema.now.kinds in
    let fields = c.args.fields.now in
    let inner = c.args.parts.now in
    let m = c.index.result.now in
    let here : c.loop-i.i < length inner.items = omega
    (arith, c.loop-i-test.true, inner.ok.0, c.deref-value-items.ensures.len) in
    let more = fields-at fields.items c.loop-i.i m (omega (arith, here, c.loop-i.invariant.lengths)) c.index.ensures in
    let next = values-at inner.items c.loop-i.i c.value-item.result here
    (c.value-item.is ∙ ap (λ (z : List Value). get_or z c.loop-i.i c.value-item.result)
    c.deref-value-items.ensures.value) in
    record {
      lengths = c.loop-i.invariant.lengths;
      rest = rest-within S (part_of_member m) _ _ (tree c.value-item.result) _ _ c.args.most _ more next
          c.loop-i.invariant.rest (sym c.is_value.ensures ∙ c.if-not-is_value.false);
    }

pub is_node-returns-in-Some : goal.is_node-returns-in-Some
is_node-returns-in-Some t c =
    let S = c.args.schema.now.kinds in
    let union = c.in-Choice-Choice in
    let z = c.in-Choice-Choice.number in
    let part = c.in-Choice-Choice.part in
    let pm = part_of_member c.in-Some.member.now in
    let is : kind_at S c.args.id.place ≡ kind_view (kinds.Choice union.tag union.arms-0 union.other-0) =
    sym c.requires.kind ∙ ap kind_view union.is-0 in
    let picked : Some pm ≡ part_in (kind_at S c.args.id.place) z =
    grind (arith, to_z-of_z, c.in-Some.ensures) in
    let ours = subst (λ (g : KindView). Some pm ≡ part_in g z) is picked in
    let told : c.is_legal_tag-in-Choice-Choice.result ≡ is_tag_of (kind_at S union.tag.place) z =
    grind (arith, to_z-of_z, c.is_legal_tag-in-Choice-Choice.ensures) in
    let tagged : is_tag_of (kind_at S union.tag.place) z ≡ true = sym told ∙ c.if-not-is_legal_tag.false in
    let legal = subst (λ (g : KindView). is_legal S g (tag z) ≡ true) (sym is)
    (both_of (is_tag_of (kind_at S union.tag.place) z) _ tagged (ap is_some (sym ours))) in
    let has = subst (λ (g : KindView). parts g (tag z) ≡ pm ∷ []) (sym is) (ap optional_part (sym ours)) in
    let below = one-below S c.args.id.place (tree c.args.value.now) (tag z) pm (tree part.value) c.args.most
    c.requires.most (ap tree union.is-1 ∙ tree-Choice z part) legal has in
    c.is_value.ensures
    ∙ ap (λ (w : Value). fits_within S c.in-Some.member.now.kind.place (tree w) (c.args.most - 1)) c.deref.ensures
    ∙ below

pub is_node-returns-in-Maybe-Maybe-Some : goal.is_node-returns-in-Maybe-Maybe-Some
is_node-returns-in-Maybe-Maybe-Some t c =
    let S = c.args.schema.now.kinds in
    let option = c.in-Maybe-Maybe-Some in
    let is : kind_at S c.args.id.place ≡ kind_view (kinds.Maybe option.item) =
    sym c.requires.kind ∙ ap kind_view option.is-0 in
    let legal = subst (λ (g : KindView). is_legal S g present ≡ true) (sym is) refl in
    let has = subst (λ (g : KindView). parts g present ≡ item_part option.item.place ∷ []) (sym is) refl in
    let below = one-below S c.args.id.place (present, from_list (tree option.part.value ∷ [])) present
    (item_part option.item.place) (tree option.part.value) c.args.most c.requires.most refl legal has in
    search (rules, the_lemmas, tree-Some, below)
