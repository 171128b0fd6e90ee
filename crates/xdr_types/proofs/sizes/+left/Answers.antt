use Rattle.std.proofs.Common.{◌≡◌, ◌<◌, true, rules, length, map, arith, ap, ◌∙◌, List, get_or, subst, Some}
use Rattle.std.proofs.Common.{[], ◌∷◌, sym, ℕ, ◌*◌}
use Rattle.xdr_types.specs.Within.{IsLeft}
use Rattle.xdr_types.proofs.Extents.{items_sized}
use Rattle.std.proofs.lemmas.Int.{to_z-of_z}
use Rattle.xdr_types.specs.Kinds.{KindView, kind_at}
use Rattle.xdr_types.specs.KindViews.{part_of_member, kind_view}
use Rattle.xdr_types.specs.Tree.{Tree, tag, from_list}
use Rattle.xdr_types.specs.Fits.{fits, fit, parts, item_part, part_in}
use Rattle.xdr_types.specs.Spelling.{spelling}
use Rattle.xdr_types.specs.View.{tree, values}
use Rattle.xdr_types.proofs.Views.{tree-List, tree-Choice}
use Rattle.xdr_types.proofs.Joining.{values-at, items-at, fields-at, first-fits, length-step, chosen-fits}
use Rattle.xdr_types.proofs.Fitting.{fit-count}
use Rattle.xdr_types.specs.declared.value.Value.{Value, the_lemmas}
use Rattle.xdr_types.proofs.sizes.+left.Goals as goal

pub left_after_items-returns-in-Some : goal.left_after_items-returns-in-Some
left_after_items-returns-in-Some t c =
    let n = length c.args.items.now.items in
    let sized = items_sized c.args.schema.now.kinds c.args.id.place c.in-Some.extent c.in-Some.ensures n
    (values c.args.items.now.items) c.requires in
    let count : c.len.result ≡ n = omega (arith, c.len.ensures, c.args.items.now.ok.0) in
    subst (λ (k : ℕ). IsLeft c.args.space k c.take_times.result) (sym sized)
    (subst (λ (k : ℕ). IsLeft c.args.space (c.in-Some.extent.bytes * k) c.take_times.result) count
    c.take_times.ensures)

pub left_after_items-left_after-requires : goal.left_after_items-left_after-requires
left_after_items-left_after-requires t c =
    let vs : List Value = c.deref-value-items.result.now in
    let fit : fits c.args.schema.now.kinds c.args.id.place (tree c.value-item.result) ≡ true =
    (first-fits c.args.schema.now.kinds (item_part c.args.id.place) _ _ (tree c.value-item.result) _ _
    (items-at (item_part c.args.id.place) vs c.loop-value.value-index c.value-item.result c.loop-value-test.true)
    (values-at vs c.loop-value.value-index c.value-item.result c.loop-value-test.true c.value-item.is)
    c.loop-value.invariant.fit).0 in
    search (rules, the_lemmas)

pub left_after_items-loop-value-preserved : goal.left_after_items-loop-value-preserved
left_after_items-loop-value-preserved t c =
    let vs : List Value = c.deref-value-items.result.now in
    let more = items-at (item_part c.args.id.place) vs c.loop-value.value-index c.value-item.result
    c.loop-value-test.true in
    let next = values-at vs c.loop-value.value-index c.value-item.result c.loop-value-test.true c.value-item.is in
    record {
      fit = (first-fits c.args.schema.now.kinds (item_part c.args.id.place) _ _
          (tree c.value-item.result) _ _ more next c.loop-value.invariant.fit).1;
      reported = let step = length-step c.args.schema.now.kinds (item_part c.args.id.place) _ _
          (tree c.value-item.result) _ _ more next in omega
          (arith, step, c.loop-value.invariant.reported, c.in_ok-left.ensures);
    }

pub left_after_parts-left_after-requires : goal.left_after_parts-left_after-requires
left_after_parts-left_after-requires t c =
    let fields = c.args.fields.now in
    let inner = c.args.parts.now in
    let m = c.index.result.now in
    let same : length fields.items ≡ length inner.items =
    fit-count c.args.schema.now.kinds fields.items inner.items c.requires in
    let more = fields-at fields.items c.loop-i.i m
    (omega (arith, same, c.loop-i-test.true, inner.ok.0, c.deref-value-items.ensures.len)) c.index.ensures in
    let next = values-at inner.items c.loop-i.i c.value-item.result
    (omega (arith, same, c.loop-i-test.true, inner.ok.0, c.deref-value-items.ensures.len))
    (c.value-item.is ∙ ap (λ (z : List Value). get_or z c.loop-i.i c.value-item.result)
    c.deref-value-items.ensures.value) in
    let fit : fits c.args.schema.now.kinds m.kind.place (tree c.value-item.result) ≡ true =
    (first-fits c.args.schema.now.kinds (part_of_member m) _ _
    (tree c.value-item.result) _ _ more next c.loop-i.invariant.fit).0 in
    search (rules, the_lemmas)

pub left_after_parts-loop-i-preserved : goal.left_after_parts-loop-i-preserved
left_after_parts-loop-i-preserved t c =
    let fields = c.args.fields.now in
    let inner = c.args.parts.now in
    let m = c.index.result.now in
    let same : length fields.items ≡ length inner.items =
    fit-count c.args.schema.now.kinds fields.items inner.items c.requires in
    let more = fields-at fields.items c.loop-i.i m
    (omega (arith, same, c.loop-i-test.true, inner.ok.0, c.deref-value-items.ensures.len)) c.index.ensures in
    let next = values-at inner.items c.loop-i.i c.value-item.result
    (omega (arith, same, c.loop-i-test.true, inner.ok.0, c.deref-value-items.ensures.len))
    (c.value-item.is ∙ ap (λ (z : List Value). get_or z c.loop-i.i c.value-item.result)
    c.deref-value-items.ensures.value) in
    record {
      fit = (first-fits c.args.schema.now.kinds (part_of_member m) _ _
          (tree c.value-item.result) _ _ more next c.loop-i.invariant.fit).1;
      reported = let step = length-step c.args.schema.now.kinds (part_of_member m) _ _
          (tree c.value-item.result) _ _ more next in omega
          (arith, step, c.loop-i.invariant.reported, c.in_ok-left.ensures);
    }

pub left_after_inner-returns-in-Fixed-List : goal.left_after_inner-returns-in-Fixed-List
left_after_inner-returns-in-Fixed-List t c = search (rules, the_lemmas, tree-List)

pub left_after_inner-returns-in-UpTo-List : goal.left_after_inner-returns-in-UpTo-List
left_after_inner-returns-in-UpTo-List t c = search (rules, the_lemmas, tree-List)

pub left_after_inner-left_after-requires : goal.left_after_inner-left_after-requires
left_after_inner-left_after-requires t c =
    let S = c.args.schema.now.kinds in
    let part = c.in-Choice-Choice.part in
    let z = c.in-Choice-Choice.tag in
    let f = kind_view c.args.kind.now in
    let at_tree : fit S (parts f (tree c.args.value.now).0) (tree c.args.value.now).1 ≡ true = c.requires.fits in
    let whole = subst (λ (u : Tree). fit S (parts f u.0) u.1 ≡ true)
    (ap tree c.in-Choice-Choice.is-1 ∙ tree-Choice z part) at_tree in
    let chosen = subst (λ (g : KindView). fit S (parts g (tag z)) (from_list (tree part.value ∷ [])) ≡ true)
    (ap kind_view c.in-Choice-Choice.is-0) whole in
    let picked : Some (part_of_member c.in-Some.member.now) ≡ part_in (kind_at S c.args.id.place) z =
    grind (arith, to_z-of_z, c.in-Some.ensures) in
    let ours = subst (λ (g : KindView). Some (part_of_member c.in-Some.member.now) ≡ part_in g z)
    (sym c.requires.kind ∙ ap kind_view c.in-Choice-Choice.is-0) picked in
    let fit : fits S c.in-Some.member.now.kind.place (tree part.value) ≡ true =
    chosen-fits S _ (part_of_member c.in-Some.member.now) (tree part.value) (sym ours) chosen in
    search (rules, the_lemmas)

pub left_after_parts-returns-in_err-left : goal.left_after_parts-returns-in_err-left
left_after_parts-returns-in_err-left t c =
    let fields = c.args.fields.now in
    let inner = c.args.parts.now in
    let m = c.index.result.now in
    let same : length fields.items ≡ length inner.items =
    fit-count c.args.schema.now.kinds fields.items inner.items c.requires in
    let more = fields-at fields.items c.loop-i.i m
    (omega (arith, same, c.loop-i-test.true, inner.ok.0, c.deref-value-items.ensures.len)) c.index.ensures in
    let next = values-at inner.items c.loop-i.i c.value-item.result
    (omega (arith, same, c.loop-i-test.true, inner.ok.0, c.deref-value-items.ensures.len))
    (c.value-item.is ∙ ap (λ (z : List Value). get_or z c.loop-i.i c.value-item.result)
    c.deref-value-items.ensures.value) in
    let step = length-step c.args.schema.now.kinds (part_of_member m) _ _ (tree c.value-item.result) _ _ more next in
    let short : c.args.space < length (spelling c.args.schema.now.kinds (map part_of_member fields.items)
    (values inner.items)) = omega (arith, step, c.loop-i.invariant.reported, c.in_err-left.ensures) in
    search (rules, short)
