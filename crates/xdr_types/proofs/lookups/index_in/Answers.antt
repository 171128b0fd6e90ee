use Rattle.std.proofs.Common.{◌≡◌, ◌∙◌, ◌<◌, ℕ, ℤ, List, Some, length, w64, to_z, of_z, sym, ap, arith, rules}
use Rattle.xdr_types.specs.Private.Lookups.{number_at, first_at}
use Rattle.xdr_types.proofs.Entries.{first_here, first_nowhere, nowhere, entry_number, entry_index}
use Rattle.xdr_types.proofs.lookups.index_in.Goals as goal

pub returns-then-place-len : goal.returns-then-place-len
returns-then-place-len c =
    let es : List (ℤ × ℕ) = c.args.found.now.items in
    let same : to_z w64 (of_z w64 c.args.number) ≡ c.args.number = search rules in
    sym (first_nowhere es c.count_lower-place.result (to_z w64 (of_z w64 c.args.number))
    c.count_lower-place.ensures.below (λ i h lt. absurd (omega arith)))
    ∙ ap (λ (z : ℤ). first_at es z) same

pub returns-then-lowest-number : goal.returns-then-lowest-number
returns-then-lowest-number c =
    let es : List (ℤ × ℕ) = c.args.found.now.items in
    let e : ℤ × ℕ = c.index.result.now in
    let k = c.count_lower-place.result in
    let lt : k < length es = omega arith in
    let same : to_z w64 (of_z w64 c.args.number) ≡ c.args.number = search rules in
    let here : to_z w64 (of_z w64 e.0) ≡ e.0 = search rules in
    let is : number_at es k ≡ to_z w64 (of_z w64 c.args.number) = sym (entry_number es k e lt c.index.ensures)
    ∙ sym here ∙ ap (to_z w64) c.if-lowest-number.true in
    ap Some (entry_index es k e lt c.index.ensures)
    ∙ sym (first_here es k (to_z w64 (of_z w64 c.args.number)) lt c.count_lower-place.ensures.below is)
    ∙ ap (λ (z : ℤ). first_at es z) same

pub returns-else-lowest-number : goal.returns-else-lowest-number
returns-else-lowest-number c =
    let es : List (ℤ × ℕ) = c.args.found.now.items in
    let e : ℤ × ℕ = c.index.result.now in
    let k = c.count_lower-place.result in
    let lt : k < length es = omega arith in
    let same : to_z w64 (of_z w64 c.args.number) ≡ c.args.number = search rules in
    sym (nowhere es k (to_z w64 (of_z w64 c.args.number)) c.requires lt c.count_lower-place.ensures.below
    (c.count_lower-place.ensures.above k (omega arith) lt)
    (λ is. c.if-lowest-number.false (ap (of_z w64) (entry_number es k e lt c.index.ensures ∙ is ∙ same))))
    ∙ ap (λ (z : ℤ). first_at es z) same
