-- One value more, an item that is refused, or all of them.
use Rattle.std.proofs.Common.{◌≡◌, ℕ, ◌+◌, ◌<◌, List, ◌++◌, length, get_or, sym, subst, arith}
use Rattle.std.proofs.lemmas.List.{drop_more}
use Rattle.xdr_types.specs.declared.kind.KindId.{KindId}
use Rattle.oncrpc_encode.specs.declared.item.Item.{Item}
use Rattle.oncrpc_encode.specs.Arguments.{SoughtEach, places_of, sought_at}
use Rattle.oncrpc_encode.specs.Private.Each.{IsRightItem}
use Rattle.oncrpc_encode.specs.declared.encoded.Encoded.{Encoded}
use Rattle.oncrpc_encode.proofs.Arguing.{items_refused}
use Rattle.oncrpc_encode.proofs.Each.{Tells, at_all, tells_all, tells_more, tells_refused}
use Rattle.oncrpc_encode.proofs.Inside.{IsInside, all_inside}
use Rattle.oncrpc_encode.proofs.arguments.encoded_items.Goals as goal

abbrev no_item : Item
no_item = record { begin = 0; end = 0 }

abbrev no_kind : KindId
no_kind = record { place = 0 }

pub encoded_item-requires-clause-begins : goal.encoded_item-requires-clause-begins
encoded_item-requires-clause-begins c =
    let below : c.loop-number.number < length c.args.items.now = omega arith in
    (at_all (IsInside (length c.args.text.now)) c.args.items.now c.loop-number.number no_item
    (all_inside c.args.text.now (length c.args.kinds.now) c.args.items.now c.requires.items) below).0

pub encoded_item-requires-clause-ends : goal.encoded_item-requires-clause-ends
encoded_item-requires-clause-ends c =
    let below : c.loop-number.number < length c.args.items.now = omega arith in
    (at_all (IsInside (length c.args.text.now)) c.args.items.now c.loop-number.number no_item
    (all_inside c.args.text.now (length c.args.kinds.now) c.args.items.now c.requires.items) below).1

pub loop-number-preserved : goal.loop-number-preserved
loop-number-preserved c =
    let s : SoughtEach = record {
      kinds = c.args.schema.now.kinds;
      places = places_of c.args.kinds.now;
      limits = c.args.limits;
    } in
    let n = c.loop-number.number in
    let k = get_or c.args.kinds.now n no_kind in
    let i = get_or c.args.items.now n no_item in
    let below : n < length c.args.kinds.now = c.loop-number-test.true in
    let among : n < length c.args.items.now = omega arith in
    let right = subst (λ (e : Encoded). IsRightItem (sought_at s k.place) c.args.text.now i e) c.in-Bytes.is
    c.in_ok-encoded.ensures.right in
    let more = tells_more s c.args.text.now c.args.kinds.now c.args.items.now n c.loop-number.all.items
    c.loop-number.invariant k i (drop_more c.args.kinds.now n no_kind below)
    (drop_more c.args.items.now n no_item among) c.in-Bytes.bytes.items right in
    let added : c.extend_from_slice.new.self.items ≡ c.loop-number.all.items ++ c.in-Bytes.bytes.items =
    rw c.deref.ensures.value at c.in_ok-extend_from_slice-in-Bytes.ensures.items in
    subst (λ (z : List ℕ). Tells s c.args.text.now c.args.kinds.now c.args.items.now (n + 1) z) (sym added) more

pub returns-in-Refused-clause-right : goal.returns-in-Refused-clause-right
returns-in-Refused-clause-right c =
    let s : SoughtEach = record {
      kinds = c.args.schema.now.kinds;
      places = places_of c.args.kinds.now;
      limits = c.args.limits;
    } in
    let n = c.loop-number.number in
    let k = get_or c.args.kinds.now n no_kind in
    let i = get_or c.args.items.now n no_item in
    let below : n < length c.args.kinds.now = c.loop-number-test.true in
    let among : n < length c.args.items.now = omega arith in
    items_refused s c.args.text.now c.args.items.now k.place i c.in-Refused.refusal
    (tells_refused s c.args.text.now c.args.kinds.now c.args.items.now n c.loop-number.all.items
    c.loop-number.invariant k i (drop_more c.args.kinds.now n no_kind below)
    (drop_more c.args.items.now n no_item among))
    (subst (λ (e : Encoded). IsRightItem (sought_at s k.place) c.args.text.now i e) c.in-Refused.is
    c.in_ok-encoded.ensures.right)

pub returns-clause-right : goal.returns-clause-right
returns-clause-right c =
    let s : SoughtEach = record {
      kinds = c.args.schema.now.kinds;
      places = places_of c.args.kinds.now;
      limits = c.args.limits;
    } in
    let end : c.loop-number.number ≡ length c.args.kinds.now = omega arith in
    tells_all s c.args.text.now c.args.kinds.now c.args.items.now c.loop-number.all.items
    (subst (λ (m : ℕ). Tells s c.args.text.now c.args.kinds.now c.args.items.now m c.loop-number.all.items) end
    c.loop-number.invariant)
    c.requires.counted
