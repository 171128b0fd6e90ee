use Rattle.std.proofs.Common.{◌≡◌, ◌<◌, List, String, map, length, get_or, ap, ◌∙◌, sym, subst}
use Rattle.std.specs.declared.alloc.Global.{Global}
use Rattle.xdr_types.specs.KindViews.{kind_view, name_of}
use Rattle.xdr_types.specs.Faults.{name_flaw_at}
use Rattle.xdr_types.specs.declared.kind.KindId.{KindId}
use Rattle.xdr_types.proofs.Flawless.{one-more}
use Rattle.xdr_types.proofs.Earlier.{next_name, flaw_by_set}
use Rattle.xdr_types.proofs.names.first_by_set.Goals as goal

pub loop-place-preserved : goal.loop-place-preserved
loop-place-preserved c =
    let forms = map kind_view c.args.kinds.now.items in
    let names = c.args.names.now.items in
    let place = c.loop-place.place in
    let n = c.name-item.result in
    let s = c.loop-place.earlier in
    let within : place < length names = subst
    (λ (z : List (String Global × KindId)). place < length z) c.deref-name-items.ensures.value
    c.loop-place-test.true in
    let is : n ≡ get_or names place n = c.name-item.is
    ∙ ap (λ (z : List (String Global × KindId)). get_or z place n) c.deref-name-items.ensures.value in (
      one-more (name_flaw_at forms (map name_of names)) place c.loop-place.invariant.0
          (flaw_by_set forms names _ place _ n s _ _ within is c.as_str.ensures.value c.in_ok-is_new.ensures.added
          c.looked_at-before.ensures c.deref.ensures.value c.loop-place.invariant.1
          ∙ sym c.name_flaw.ensures ∙ c.in_default.is),
      next_name names place n s c.insert.new.self c.as_str.result within is c.as_str.ensures.value
          c.in_ok-is_new.ensures.updates c.loop-place.invariant.1,
    )

pub returns-in-Some : goal.returns-in-Some
returns-in-Some c =
    let forms = map kind_view c.args.kinds.now.items in
    let names = c.args.names.now.items in
    let place = c.loop-place.place in
    let n = c.name-item.result in
    let within : place < length names = subst
    (λ (z : List (String Global × KindId)). place < length z) c.deref-name-items.ensures.value
    c.loop-place-test.true in
    let is : n ≡ get_or names place n = c.name-item.is
    ∙ ap (λ (z : List (String Global × KindId)). get_or z place n) c.deref-name-items.ensures.value in
    record {
      within = within;
      before = c.loop-place.invariant.0;
      here = flaw_by_set forms names _ place _ n c.loop-place.earlier _ _ within is c.as_str.ensures.value
          c.in_ok-is_new.ensures.added c.looked_at-before.ensures c.deref.ensures.value c.loop-place.invariant.1
          ∙ sym c.name_flaw.ensures ∙ c.in-Some.is;
    }
