use Rattle.std.proofs.Common.{◌≡◌, ℕ, ◌+◌, ◌^◌, ◌<◌, ◌≤◌, min, List, length, drop, get_or, arith, subst, sym, ◌∙◌}
use Rattle.std.proofs.lemmas.List.{at_drop_more, at_drop_all}
use Rattle.xdr_types.specs.declared.kind.KindId.{KindId}
use Rattle.xdr_bounds.specs.Private.Amounts.{Amounts, amount_at, Shows, places_of, lowest}
use Rattle.xdr_bounds.proofs.Sums.{lowest-capped}
use Rattle.xdr_bounds.proofs.amounts.lowest_over.Goals as goal

pub loop-id-init : goal.loop-id-init
loop-id-init c = λ f shows.
    let capped : lowest f (places_of c.deref-id-items.result.now) ≤ 2 ^ 64 = lowest-capped f _ in
    (2 ^ 64, omega arith, omega arith, omega arith)

pub loop-id-preserved : goal.loop-id-preserved
loop-id-preserved c = λ f shows.
    let so_far = c.loop-id.invariant f shows in
    let ids = c.deref-id-items.result.now in
    let q = (get_or ids c.loop-id.id-index (record { place = 0 })).place in
    let shown : Amounts c.amount_at.result (f q) = rw c.amount_at.ensures (shows q) in
    let next : lowest f (places_of (drop c.loop-id.id-index ids))
    ≡ min (f q) (lowest f (places_of (drop (c.loop-id.id-index + 1) ids))) =
    at_drop_more (λ (xs : List KindId). lowest f (places_of xs)) ids c.loop-id.id-index (record { place = 0 })
    c.loop-id-test.true in
    let most : so_far.0 ≤ 2 ^ 64 = so_far.2 in
    let all : min so_far.0 (lowest f (places_of (drop c.loop-id.id-index ids))) ≡ lowest f (places_of ids) = so_far.3 in
    (min so_far.0 (f q), c.lesser-least.ensures so_far.0 (f q) so_far.1 shown, omega arith, omega arith)

pub returns : goal.returns
returns c = λ f shows.
    let so_far = c.loop-id.invariant f shows in
    let ids = c.deref-id-items.result.now in
    let none : lowest f (places_of (drop c.loop-id.id-index ids)) ≡ 2 ^ 64 =
    at_drop_all (λ (xs : List KindId). lowest f (places_of xs)) ids c.loop-id.id-index c.loop-id-test.false in
    let most : so_far.0 ≤ 2 ^ 64 = so_far.2 in
    let all : min so_far.0 (lowest f (places_of (drop c.loop-id.id-index ids))) ≡ lowest f (places_of ids) = so_far.3 in
    let is : so_far.0 ≡ lowest f (places_of ids) = omega arith in
    subst (λ (xs : List KindId). Amounts c.loop-id.least (lowest f (places_of xs))) c.deref-id-items.ensures.value
    (subst (λ (n : ℕ). Amounts c.loop-id.least n) is so_far.1)
