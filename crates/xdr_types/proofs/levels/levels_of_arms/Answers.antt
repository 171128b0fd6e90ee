use Rattle.std.proofs.Common.{◌≡◌, ℕ, ◌+◌, ◌-◌, ◌<◌, List, length, map, option_map, drop, get_or, sym, ap, ◌∙◌, subst}
use Rattle.std.proofs.Common.{arith}
use Rattle.xdr_types.specs.Kinds.{Branch}
use Rattle.xdr_types.specs.KindViews.{part_of_member, branch_of}
use Rattle.xdr_types.specs.Fits.{part_of, optional_part}
use Rattle.xdr_types.specs.Private.Notes.{AreWithin}
use Rattle.xdr_types.proofs.Leveled.{arm_within, arms-at}
use Rattle.xdr_types.proofs.levels.levels_of_arms.Goals as goal

pub loop-done-preserved : goal.loop-done-preserved
loop-done-preserved c = λ kinds are z.
    let ms = c.args.arms.now.items in
    let m = c.index-arm.result.now in
    let other = option_map part_of_member c.args.other.now in
    let i : ℕ = length ms - (c.loop-done.done + 1) in
    let here : i < length ms = omega arith in
    let next : i + 1 ≡ length ms - c.loop-done.done = omega arith in
    let place : c.len.result - 1 - c.loop-done.done ≡ i = omega arith in
    let is : m ≡ get_or ms i m = c.index-arm.ensures ∙ ap (λ (j : ℕ). get_or ms j m) place in
    let rest : AreWithin kinds (optional_part (part_of (map branch_of (drop (i + 1) ms)) other z)) c.loop-done.most =
    subst (λ (j : ℕ). AreWithin kinds (optional_part (part_of (map branch_of (drop j ms)) other z)) c.loop-done.most)
    (sym next) (c.loop-done.invariant kinds are z) in
    subst (λ (bs : List Branch). AreWithin kinds (optional_part (part_of bs other z)) c.higher-most.result)
    (sym (arms-at ms i m here is))
    (arm_within kinds (branch_of m) (map branch_of (drop (i + 1) ms)) other z c.in_ok-noted_levels.field-0
    c.loop-done.most c.higher-most.result (c.in_ok-noted_levels.ensures kinds are) rest c.higher-most.ensures)
