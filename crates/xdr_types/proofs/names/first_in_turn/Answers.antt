use Rattle.std.proofs.Common.{◌≡◌, ◌<◌, List, String, map, length, take, get_or, ap, ◌∙◌, sym, subst}
use Rattle.std.specs.declared.alloc.Global.{Global}
use Rattle.xdr_types.specs.KindViews.{kind_view, name_of}
use Rattle.xdr_types.specs.Faults.{name_flaw, name_flaw_at}
use Rattle.xdr_types.specs.declared.kind.KindId.{KindId}
use Rattle.xdr_types.proofs.Flawless.{one-more, flaw-here}
use Rattle.xdr_types.proofs.names.first_in_turn.Goals as goal

pub loop-place-preserved : goal.loop-place-preserved
loop-place-preserved c =
    let forms = map kind_view c.args.kinds.now.items in
    let names = c.args.names.now.items in
    let place = c.loop-place.place in
    let n = c.name-item.result in
    let within : place < length names = subst
    (λ (z : List (String Global × KindId)). place < length z) c.deref-name-items.ensures.value
    c.loop-place-test.true in
    let is : n ≡ get_or names place n = c.name-item.is
    ∙ ap (λ (z : List (String Global × KindId)). get_or z place n) c.deref-name-items.ensures.value in
    one-more (name_flaw_at forms (map name_of names)) place c.loop-place.invariant
    (flaw-here forms names place n within is
    ∙ ap (λ (z : List (String Global × KindId)). name_flaw forms (map name_of (take place z)) (name_of n))
    (sym c.deref.ensures.value)
    ∙ sym c.name_flaw.ensures ∙ c.in_default.is)

pub returns-in-Some : goal.returns-in-Some
returns-in-Some c =
    let forms = map kind_view c.args.kinds.now.items in
    let names = c.args.names.now.items in
    let place = c.loop-place.place in
    let n = c.name-item.result in
    let within : place < length names = subst
    (λ (z : List (String Global × KindId)). place < length z) c.deref-name-items.ensures.value
    c.loop-place-test.true in
    let is : n ≡ get_or names place n = c.name-item.is
    ∙ ap (λ (z : List (String Global × KindId)). get_or z place n) c.deref-name-items.ensures.value in
    record {
      within = within;
      before = c.loop-place.invariant;
      here = flaw-here forms names place n within is
          ∙ ap (λ (z : List (String Global × KindId)). name_flaw forms (map name_of (take place z)) (name_of n))
          (sym c.deref.ensures.value)
          ∙ sym c.name_flaw.ensures ∙ c.in-Some.is;
    }
