use Rattle.std.proofs.Common.{◌≡◌, ◌∙◌, ◌+◌, ℤ, ℕ, suc, w32, w64, to_z, of_z, List, ◌∷◌, Option, Some, None, String}
use Rattle.std.proofs.Common.{cond, map, length, drop, drop-cons, int_eq, sym, ap, arith, rules}
use Rattle.std.proofs.Math.Seq.{drop-length}
use Rattle.std.specs.declared.alloc.Global.{Global}
use Rattle.std.specs.Option.{option_or}
use Rattle.xdr_types.specs.KindViews.{constant_of}
use Rattle.xdr_types.specs.Private.Lookups.{member_from, first_at}
use Rattle.xdr_types.proofs.Entries.{first_of_none, or_none, or_after}
use Rattle.xdr_types.proofs.lookups.members_by_number.Goals as goal

pub loop-index-init : goal.loop-index-init
loop-index-init c z =
    ap (λ (o : Option ℕ). option_or o (member_from 0 (map constant_of c.args.members.now) z))
    (ap (λ (es : List (ℤ × ℕ)). first_at es z) c.in_ok-found.ensures.items ∙ first_of_none z)

pub loop-index-preserved : goal.loop-index-preserved
loop-index-preserved c z =
    let ms = c.args.members.now in
    let m = c.index-members-index.result in
    let i = c.loop-index.index in
    let rest : Option ℕ = member_from (i + 1) (map constant_of (drop (i + 1) ms)) z in
    let had : Option ℕ = first_at c.loop-index.found.items z in
    let next : suc i ≡ i + 1 = omega arith in
    let here : drop i ms ≡ m ∷ drop (i + 1) ms = drop-cons ms i m (omega arith)
    ∙ ap (λ (x : String Global × ℤ). x ∷ drop (suc i) ms) (sym c.index-members-index.is)
    ∙ ap (λ (j : ℕ). m ∷ drop j ms) next in
    let same : to_z w64 (of_z w64 c.as_case.result) ≡ c.as_case.result = search rules in
    let small : to_z w32 (of_z w32 m.1) ≡ m.1 = search rules in
    let number : c.as_case.result ≡ m.1 = c.as_case.ensures.value ∙ small in
    ap (λ (o : Option ℕ). option_or o rest) (c.in_ok-add_number.ensures z
    ∙ ap (λ (n : ℤ). option_or had (cond (int_eq n z) (Some i) None)) (same ∙ number))
    ∙ or_after had (int_eq m.1 z) i rest
    ∙ ap (λ (l : List (String Global × ℤ)). option_or had (member_from i (map constant_of l) z)) (sym here)
    ∙ c.loop-index.invariant z

pub returns : goal.returns
returns c z =
    let ms = c.args.members.now in
    let none : c.loop-index.index ≡ length ms = omega arith in
    sym (or_none (first_at c.loop-index.found.items z))
    ∙ (rw (none, drop-length ms) at (c.loop-index.invariant z))
