use Rattle.std.proofs.Common.{◌≡◌, ◌+◌, ℤ, sym, subst, arith, rules, to_z, of_z}
use Rattle.std.proofs.Math.ListN.{set}
use mir.Syntax.{w128}
use Rattle.c_values.proofs.Several.{AreCopied, one_copied}
use Rattle.c_values.proofs.numbers.copy_numbers.Goals as goal

pub loop-count-preserved : goal.loop-count-preserved
loop-count-preserved c =
    let same : to_z w128 (of_z w128 c.in-Some.number) ≡ c.in-Some.number = search rules in
    subst (λ (x : ℤ). AreCopied c.args.items.now (set c.loop-count.numbers c.loop-count.count x)
    (c.loop-count.count + 1)) (sym same)
    (one_copied c.args.items.now c.loop-count.numbers c.loop-count.count _ c.in-Some.number c.loop-count.invariant
    (omega arith) (omega arith) c.in-Some.ensures)
