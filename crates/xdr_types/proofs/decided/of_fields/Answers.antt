use Rattle.std.proofs.Common.{◌≡◌, ℕ, ◌+◌, ◌-◌, ◌<◌, List, length, map, drop, get_or, refl, sym, ap, ◌∙◌, subst, arith}
use Rattle.xdr_types.specs.Kinds.{Part}
use Rattle.xdr_types.specs.KindViews.{part_of_member}
use Rattle.xdr_types.specs.Private.Deciding.{AreDecided}
use Rattle.xdr_types.proofs.Joining.{fields-at}
use Rattle.xdr_types.proofs.decided.of_fields.Goals as goal

pub loop-done-preserved : goal.loop-done-preserved
loop-done-preserved c = λ kinds are.
    let ms = c.args.fields.now.items in
    let m = c.index-field.result.now in
    let i : ℕ = length ms - (c.loop-done.done + 1) in
    let here : i < length ms = omega arith in
    let next : i + 1 ≡ length ms - c.loop-done.done = omega arith in
    let place : c.len.result - 1 - c.loop-done.done ≡ i = omega arith in
    let is : m ≡ get_or ms i m = c.index-field.ensures ∙ ap (λ (j : ℕ). get_or ms j m) place in
    let rest : AreDecided kinds (map part_of_member (drop (i + 1) ms)) c.loop-done.together =
    subst (λ (j : ℕ). AreDecided kinds (map part_of_member (drop j ms)) c.loop-done.together) (sym next)
    (c.loop-done.invariant kinds are) in
    subst (λ (ps : List Part). AreDecided kinds ps c.in_ok-together.together) (sym (fields-at ms i m here is))
    (c.in_ok-together.ensures kinds (part_of_member m) (map part_of_member (drop (i + 1) ms)) are refl rest)

pub returns : goal.returns
returns c = λ kinds are.
    let ms = c.args.fields.now.items in
    let none : length ms - c.loop-done.done ≡ 0 = omega arith in
    subst (λ (j : ℕ). AreDecided kinds (map part_of_member (drop j ms)) c.loop-done.together) none
    (c.loop-done.invariant kinds are)
