-- The checker's answer to the only piece is the outcome of all bytes.
use Rattle.std.proofs.Common.{sym, ◌∙◌, arith}
use Rattle.std.proofs.lemmas.Bool.{false≢true}
use Rattle.c_values.proofs.Judging.{begins, cut, broken}
use Rattle.c_values.proofs.judge.judge.Goals as goal

pub returns-in-Ok-Done : goal.returns-in-Ok-Done
returns-in-Ok-Done c = (
  begins c.args.schema.now c.args.kind c.args.limits c.start-checker.result c.start-checker.ensures.settings
      c.depth-in_range.ensures.range.units c.args.input.now c.feed.result _ c.in-Ok-Done.used c.in-Ok-Done.is
      c.in-Ok-Done.field-0-is (c.feed.ensures.outcome _ c.start-checker.ensures.represents),
  omega arith,
)

pub returns-in-Ok-Done-2 : goal.returns-in-Ok-Done-2
returns-in-Ok-Done-2 c =
    let value = begins c.args.schema.now c.args.kind c.args.limits c.start-checker.result
    c.start-checker.ensures.settings c.depth-in_range.ensures.range.units c.args.input.now c.feed.result _
    c.in-Ok-Done.used c.in-Ok-Done.is c.in-Ok-Done.field-0-is
    (c.feed.ensures.outcome _ c.start-checker.ensures.represents) in
    (value, omega (arith, value.within))

pub returns-in-Ok-More : goal.returns-in-Ok-More
returns-in-Ok-More c =
    cut c.args.schema.now c.args.kind c.args.limits c.start-checker.result c.start-checker.ensures.settings
    c.depth-in_range.ensures.range.units c.args.input.now c.feed.result _ c.in-Ok-More.is c.in-Ok-More.field-0-is
    (c.feed.ensures.outcome _ c.start-checker.ensures.represents)

pub returns : goal.returns
returns c =
    broken c.args.schema.now c.args.kind c.args.limits c.start-checker.result c.start-checker.ensures.settings
    c.depth-in_range.ensures.range.units c.args.input.now c.in-Err.fault
    (λ e. let same = rw e at c.eq.ensures in false≢true (sym c.if-eq.false ∙ same))
    (c.in-Err.ensures.outcome _ c.start-checker.ensures.represents)
