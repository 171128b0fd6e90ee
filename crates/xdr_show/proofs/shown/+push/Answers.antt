use Rattle.std.proofs.Common.{refl, ◌≡◌, ◌+◌, ◌≤◌, true, rules, length, arith, ap, ◌∙◌, List, get_or}
use Rattle.std.proofs.Common.{subst, sym, Some, [], ◌∷◌}
use Rattle.std.proofs.lemmas.Int.{to_z-of_z}
use Rattle.xdr_types.specs.Kinds.{KindView, kind_at}
use Rattle.xdr_types.specs.KindViews.{part_of_member, kind_view}
use Rattle.xdr_types.specs.Tree.{Tree, tag, none, from_list, depth_of}
use Rattle.xdr_types.specs.Fits.{fits, fit, parts, item_part, part_in}
use Rattle.xdr_types.specs.View.{tree}
use Rattle.xdr_types.proofs.Views.{tree-List, tree-Choice}
use Rattle.xdr_types.proofs.Joining.{values-at, items-at, fields-at, first-fits, chosen-fits}
use Rattle.xdr_types.proofs.Fitting.{fit-count}
use Rattle.xdr_types.specs.declared.value.Value.{Value, the_lemmas}
use Rattle.xdr_show.proofs.Stepping.{lines-step, deep-step}
use Rattle.xdr_show.proofs.shown.+push.Goals as goal

pub push_items-push_value-requires : goal.push_items-push_value-requires
push_items-push_value-requires t c =
    let S = c.args.schema.now.kinds in
    let item = item_part c.args.id.place in
    let vs : List Value = c.deref-value-items.result.now in
    let more = items-at item vs c.loop-value.value-index c.value-item.result c.loop-value-test.true in
    let next = values-at vs c.loop-value.value-index c.value-item.result c.loop-value-test.true c.value-item.is in
    let fit : fits S c.args.id.place (tree c.value-item.result)
    ≡ true = (first-fits S item _ _ (tree c.value-item.result) _ _ more next c.loop-value.invariant.fit).0 in
    let deep : c.args.depth + depth_of (tree c.value-item.result).1 ≤ 4096 =
    (deep-step 4096 c.args.depth (tree c.value-item.result) _ _ next c.loop-value.invariant.deep).0 in
    search (rules, the_lemmas)

pub push_items-loop-value-preserved : goal.push_items-loop-value-preserved
push_items-loop-value-preserved t c =
    let S = c.args.schema.now.kinds in
    let item = item_part c.args.id.place in
    let vs : List Value = c.deref-value-items.result.now in
    let more = items-at item vs c.loop-value.value-index c.value-item.result c.loop-value-test.true in
    let next = values-at vs c.loop-value.value-index c.value-item.result c.loop-value-test.true c.value-item.is in
    record {
      fit = (first-fits S item _ _ (tree c.value-item.result) _ _ more next c.loop-value.invariant.fit).1;
      deep = (deep-step 4096 c.args.depth (tree c.value-item.result) _ _ next c.loop-value.invariant.deep).1;
      reported = lines-step S c.args.depth item _ _ (tree c.value-item.result) _ _ c.loop-value.out.items
          c.push_value.new.out.items _ more next c.loop-value.invariant.reported c.in_ok-push_value.ensures;
    }

pub push_fields-push_value-requires : goal.push_fields-push_value-requires
push_fields-push_value-requires t c =
    let S = c.args.schema.now.kinds in
    let fields = c.args.fields.now in
    let inner = c.args.parts.now in
    let m = c.index-field.result.now in
    let same : length fields.items ≡ length inner.items = fit-count S fields.items inner.items c.requires.fits in
    let more = fields-at fields.items c.loop-i.i m
    (omega (arith, same, c.loop-i-test.true, inner.ok.0, c.deref-value-items.ensures.len)) c.index-field.ensures in
    let next = values-at inner.items c.loop-i.i c.value-item.result
    (omega (arith, same, c.loop-i-test.true, inner.ok.0, c.deref-value-items.ensures.len))
    (c.value-item.is ∙ ap (λ (z : List Value). get_or z c.loop-i.i c.value-item.result)
    c.deref-value-items.ensures.value) in
    let fit : fits S m.kind.place (tree c.value-item.result)
    ≡ true = (first-fits S (part_of_member m) _ _ (tree c.value-item.result) _ _ more next c.loop-i.invariant.fit).0
    in
    let deep : c.args.depth + depth_of (tree c.value-item.result).1 ≤ 4096 =
    (deep-step 4096 c.args.depth (tree c.value-item.result) _ _ next c.loop-i.invariant.deep).0 in
    search (rules, the_lemmas)

pub push_fields-loop-i-preserved : goal.push_fields-loop-i-preserved
push_fields-loop-i-preserved t c =
    let S = c.args.schema.now.kinds in
    let fields = c.args.fields.now in
    let inner = c.args.parts.now in
    let m = c.index-field.result.now in
    let same : length fields.items ≡ length inner.items = fit-count S fields.items inner.items c.requires.fits in
    let more = fields-at fields.items c.loop-i.i m
    (omega (arith, same, c.loop-i-test.true, inner.ok.0, c.deref-value-items.ensures.len)) c.index-field.ensures in
    let next = values-at inner.items c.loop-i.i c.value-item.result
    (omega (arith, same, c.loop-i-test.true, inner.ok.0, c.deref-value-items.ensures.len))
    (c.value-item.is ∙ ap (λ (z : List Value). get_or z c.loop-i.i c.value-item.result)
    c.deref-value-items.ensures.value) in
    let named = c.as_bytes.ensures.value in
    record {
      fit = (first-fits S (part_of_member m) _ _ (tree c.value-item.result) _ _ more next c.loop-i.invariant.fit).1;
      deep = (deep-step 4096 c.args.depth (tree c.value-item.result) _ _ next c.loop-i.invariant.deep).1;
      reported = lines-step S c.args.depth (part_of_member m) _ _ (tree c.value-item.result) _ _ c.loop-i.out.items
          c.push_value.new.out.items _ more next c.loop-i.invariant.reported (rw (← named) c.in_ok-push_value.ensures);
    }

pub push_inner-returns-in-Fixed-List : goal.push_inner-returns-in-Fixed-List
push_inner-returns-in-Fixed-List t c = search (rules, the_lemmas, tree-List)

pub push_inner-returns-in-UpTo-List : goal.push_inner-returns-in-UpTo-List
push_inner-returns-in-UpTo-List t c = search (rules, the_lemmas, tree-List)

pub push_inner-push_value-requires : goal.push_inner-push_value-requires
push_inner-push_value-requires t c =
    let S = c.args.schema.now.kinds in
    let part = c.in-Choice-Choice.part in
    let f = kind_view c.args.kind.now in
    let view = ap tree c.in-Choice-Choice.is-1 ∙ tree-Choice c.in-Choice-Choice.tag part in
    let whole = subst (λ (u : Tree). fit S (parts f u.0) u.1 ≡ true) view c.requires.fits in
    let chosen = subst (λ (g : KindView). fit S (parts g (tag c.in-Choice-Choice.tag))
    (from_list (tree part.value ∷ []))
    ≡ true) (ap kind_view c.in-Choice-Choice.is-0) whole in
    let picked : Some (part_of_member c.in-Some.member.now)
    ≡ part_in (kind_at S c.args.id.place) c.in-Choice-Choice.tag = grind (arith, to_z-of_z, c.in-Some.ensures) in
    let ours = subst (λ (g : KindView). Some (part_of_member c.in-Some.member.now) ≡ part_in g c.in-Choice-Choice.tag)
    (sym c.requires.kind ∙ ap kind_view c.in-Choice-Choice.is-0) picked in
    let fit : fits S c.in-Some.member.now.kind.place (tree part.value)
    ≡ true = chosen-fits S _ (part_of_member c.in-Some.member.now) (tree part.value) (sym ours) chosen in
    let below = subst (λ (u : Tree). c.args.depth + depth_of u.1 ≤ 4097) view c.requires.deep in
    let deep : c.args.depth + depth_of (tree part.value).1 ≤ 4096 =
    (deep-step 4096 c.args.depth (tree part.value) none _ refl below).0 in
    search (rules, the_lemmas)
