use Rattle.std.proofs.Common.{◌∙◌, ℤ, ℕ, List, ap, sym, subst, rules}
use Rattle.std.proofs.lemmas.Fn.{dedup_same}
use Rattle.xdr_types.specs.Private.Lookups.{AreInOrder, first_at}
use Rattle.xdr_types.proofs.Entries.{alike, first_of_firsts, firsts_in_order}
use Rattle.xdr_types.proofs.lookups.keep_firsts.Goals as goal

pub returns-clause-ordered : goal.returns-clause-ordered
returns-clause-ordered c =
    let es : List (ℤ × ℕ) = c.args.found.now.items in
    let kept = c.shrink_to_fit.ensures.items
    ∙ dedup_same _ alike _ (λ x y b f x' y' k. search rules) _ _ c.dedup_by_key.ensures.filtered in
    subst AreInOrder (sym kept) (firsts_in_order es c.requires)

pub returns-clause-firsts : goal.returns-clause-firsts
returns-clause-firsts c z =
    let es : List (ℤ × ℕ) = c.args.found.now.items in
    let kept = c.shrink_to_fit.ensures.items
    ∙ dedup_same _ alike _ (λ x y b f x' y' k. search rules) _ _ c.dedup_by_key.ensures.filtered in
    ap (λ (fs : List (ℤ × ℕ)). first_at fs z) kept ∙ first_of_firsts es z
