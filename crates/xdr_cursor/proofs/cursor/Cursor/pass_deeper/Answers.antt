-- What is deeper is passed over, part by part.
use Rattle.std.proofs.Common.{◌≡◌, ℕ, List, [], take, sym, subst, ap, ◌∙◌, arith}
use Rattle.xdr_types.specs.Layout.{Entry}
use Rattle.xdr_cursor.specs.Coming.{BeginsAbove}
use Rattle.xdr_cursor.specs.Standing.{Stands}
use Rattle.xdr_cursor.specs.Private.Passing.{GoesOver}
use Rattle.xdr_cursor.proofs.Skipping.{awaits_there, same_then, passes_same, passes_more, stands_above}
use Rattle.xdr_cursor.proofs.cursor.Cursor.pass_deeper.Goals as goal

pub returns-in_default-clause-skipped : goal.returns-in_default-clause-skipped
returns-in_default-clause-skipped c =
    λ es a.
    let kinds = c.args.schema.now.kinds in
    let input = c.args.input.now in
    let w = c.loop-next.self in
    let v = c.due.new.self in
    let p = c.loop-next.invariant.1 es a in
    let b : List ℕ = take w.used input in
    let st = c.due.ensures.stands b p.rest p.awaits.stands in
    let none : p.rest ≡ [] = c.in_default.ensures.next b p.rest p.awaits.stands in (
      passes_same w v kinds input c.args.depth es p
          (awaits_there w v kinds input p.rest p.rest p.awaits c.due.ensures.same st),
      subst (λ (x : List Entry). BeginsAbove c.args.depth x) (sym none) tt,
    )

pub returns-then-len-depth-clause-skipped : goal.returns-then-len-depth-clause-skipped
returns-then-len-depth-clause-skipped c =
    λ es a.
    let kinds = c.args.schema.now.kinds in
    let input = c.args.input.now in
    let w = c.loop-next.self in
    let v = c.due.new.self in
    let p = c.loop-next.invariant.1 es a in
    let b : List ℕ = take w.used input in
    let st = c.due.ensures.stands b p.rest p.awaits.stands in (
      passes_same w v kinds input c.args.depth es p
          (awaits_there w v kinds input p.rest p.rest p.awaits c.due.ensures.same st),
      stands_above v kinds b p.rest c.args.depth st (omega arith),
    )

pub loop-next-smaller : goal.loop-next-smaller
loop-next-smaller c = omega (arith, c.in_ok-pass.ensures.more.0, c.in_ok-pass.ensures.more.1, c.due.ensures.steps)

pub loop-next-preserved : goal.loop-next-preserved
loop-next-preserved c =
    let kinds = c.args.schema.now.kinds in
    let input = c.args.input.now in
    let start = c.args.self.now in
    let w = c.loop-next.self in
    let v = c.due.new.self in
    let u = c.pass.new.self in
    let inv = c.loop-next.invariant in
    let same = same_then start w v inv.0 c.due.ensures.same in
    let here = inv.2 ∙ ap (λ (n : ℕ). take n input) (sym same.used) in (
      same_then start v u same c.pass.ensures.same,
      (λ es a.
          let p = inv.1 es a in
          let st = c.due.ensures.stands (take w.used input) p.rest p.awaits.stands in
          let b = awaits_there w v kinds input p.rest p.rest p.awaits c.due.ensures.same st in
          let q = passes_same w v kinds input c.args.depth es p b in
          passes_more v u kinds input c.args.depth es q (omega arith) c.pass.ensures.same
          (subst (λ (x : List ℕ). GoesOver v u kinds x p.rest) here
          (c.in_ok-pass.ensures.passed p.rest (subst (λ (x : List ℕ). Stands v kinds x p.rest) (sym here) b.stands)))),
      inv.2,
    )
