-- What is handed out was still to come.
use Rattle.std.proofs.Common.{ℕ, List, take, sym, ap, subst, arith}
use Rattle.xdr_cursor.specs.Standing.{Stands}
use Rattle.xdr_cursor.specs.Private.Stepping.{Gives}
use Rattle.xdr_cursor.proofs.Skipping.{same_then, hands_out, hands_none, lent_from_all}
use Rattle.xdr_cursor.proofs.cursor.Cursor.find.Goals as goal

pub returns-in_default-clause-part : goal.returns-in_default-clause-part
returns-in_default-clause-part c =
    λ es a.
    let w = c.args.self.now in
    let input = c.args.input.now in
    let b : List ℕ = take w.used input in
    hands_none w c.due.new.self c.args.schema.now.kinds input es a c.due.ensures.same
    (c.due.ensures.stands b es a.stands) (c.in_default.ensures.next b es a.stands)

pub returns-clause-part : goal.returns-clause-part
returns-clause-part c =
    λ es a.
    let w = c.args.self.now in
    let v = c.due.new.self in
    let u = c.step.new.self in
    let kinds = c.args.schema.now.kinds in
    let input = c.args.input.now in
    let here = ap (λ (n : ℕ). take n input) c.due.ensures.same.used in
    let st = c.due.ensures.stands (take w.used input) es a.stands in
    let g = c.in_ok-part.ensures.given es (subst (λ (b : List ℕ). Stands v kinds b es) (sym here) st) in
    hands_out w u kinds input es c.in_ok-part.part a (same_then w v u c.due.ensures.same c.step.ensures.same)
    (subst (λ (b : List ℕ). Gives u kinds b es c.in_ok-part.part) here g)

pub returns-clause-same : goal.returns-clause-same
returns-clause-same c =
    same_then c.args.self.now c.due.new.self c.step.new.self c.due.ensures.same c.step.ensures.same

pub returns-clause-step : goal.returns-clause-step
returns-clause-step c = (
  lent_from_all c.due.new.self.used c.args.input.now c.in_ok-part.part c.in_ok-part.ensures.step.lent,
  omega (arith, c.in_ok-part.ensures.step.more, c.due.ensures.steps),
)
