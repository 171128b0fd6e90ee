use Rattle.std.proofs.Common.{◌≡◌, ℤ, ℕ, List, int_cmp, rules}
use Rattle.std.specs.List.Sorted.{IsStableByKey}
use Rattle.std.proofs.lemmas.List.Sorted.{answers_always}
use Rattle.xdr_types.specs.Private.Lookups.{AreInOrder, first_at}
use Rattle.xdr_types.proofs.Entries.{in_order, stays_first, where_ok}
use Rattle.xdr_types.proofs.lookups.put_in_order.Goals as goal

pub returns : goal.returns
returns c =
    let es : List (ℤ × ℕ) = c.args.found.now.items in
    let fs : List (ℤ × ℕ) = c.sort_by_key.new.self.items in
    let stable : IsStableByKey (λ (e : ℤ × ℕ). e.0) int_cmp es fs = c.sort_by_key.ensures.stable (λ e. e.0)
    (answers_always _ _ _ (λ f a r g h. search rules)) in
    where_ok _ _ (AreInOrder fs × ((z : ℤ) → first_at fs z ≡ first_at es z)) c.sort_by_key.ensures.sorted
    (λ sorted. (
      in_order fs (sorted (λ e. e.0) (answers_always _ _ _ (λ f a r g h. search rules))),
      stays_first es fs stable,
    ))
