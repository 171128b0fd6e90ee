-- One item more, the last one, or none.
use Rattle.std.proofs.Common.{◌≡◌, ℕ, suc, ◌+◌, ◌-◌, List, ◌++◌, Some, ap, sym, ◌∙◌, arith}
use Rattle.std.specs.Option.{option_map}
use Rattle.oncrpc_encode.specs.declared.item.Item.{Item}
use Rattle.oncrpc_encode.specs.Private.Scanned.{items_from}
use Rattle.oncrpc_encode.proofs.Pushing.{last_pushed, none_last, none_pushed, pushed}
use Rattle.oncrpc_encode.proofs.items.items_from.Goals as goal

pub loop-number-preserved : goal.loop-number-preserved
loop-number-preserved c =
    let more = c.args.more - (c.loop-number.number + 1) in
    let e : c.args.more - c.loop-number.number ≡ suc more = omega arith in (
      omega (arith, c.in-Some.ensures.inside),
      ap (λ (ys : List Item). option_map (λ (is : List Item). ys ++ is)
          (items_from more c.args.text.now (c.in-Some.item.end + 1))) c.in_ok-push-in-Some.ensures.items
          ∙ sym (pushed c.args.text.now c.loop-number.items.items (c.args.more - c.loop-number.number) more
          c.loop-number.at e c.in-Some.item (sym c.in-Some.ensures.found))
          ∙ c.loop-number.invariant.1,
    )

pub returns-in-None : goal.returns-in-None
returns-in-None c =
    let more = c.args.more - (c.loop-number.number + 1) in
    let e : c.args.more - c.loop-number.number ≡ suc more = omega arith in
    sym (none_pushed c.args.text.now c.loop-number.items.items (c.args.more - c.loop-number.number) more
    c.loop-number.at e (sym c.in-None.ensures.found)) ∙ c.loop-number.invariant.1

pub returns-in_ok-push-in-Some-last_at : goal.returns-in_ok-push-in-Some-last_at
returns-in_ok-push-in-Some-last_at c =
    let e : c.args.more - c.loop-number.number ≡ 0 = omega arith in
    ap Some c.in_ok-push-in-Some-last_at.ensures.items
    ∙ sym (last_pushed c.args.text.now c.loop-number.items.items (c.args.more - c.loop-number.number)
    c.loop-number.at e c.in-Some-last_at.last (sym c.in-Some-last_at.ensures))
    ∙ c.loop-number.invariant.1

pub returns-in-None-last_at : goal.returns-in-None-last_at
returns-in-None-last_at c =
    let e : c.args.more - c.loop-number.number ≡ 0 = omega arith in
    sym (none_last c.args.text.now c.loop-number.items.items (c.args.more - c.loop-number.number) c.loop-number.at e
    (sym c.in-None-last_at.ensures)) ∙ c.loop-number.invariant.1
