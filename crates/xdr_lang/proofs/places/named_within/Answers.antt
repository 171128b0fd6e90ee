use Rattle.std.proofs.Common.{◌≡◌, ◌<◌, Some, arith}
use Rattle.xdr_grammar.specs.Outline as out
use Rattle.xdr_lang.specs.LookUp.{named_place, type_named}
use Rattle.xdr_lang.specs.Views.{types_of}
use Rattle.xdr_lang.proofs.Tables.{follows}
use Rattle.xdr_lang.proofs.places.named_within.Goals as goal

pub loop-step-preserved : goal.loop-step-preserved
loop-step-preserved c =
    let lt : c.loop-step.step < c.args.steps = omega arith in
    let is : Some (out.IsNamed c.in-Some-Named.next.text.now) ≡ type_named c.loop-step.name.text.now
    (types_of c.args.types.now.list.items) = rw c.in-Some-Named.field-0-is at c.in-Some-Named.ensures in
    rw c.in-Some-Named.field-0-is
    (follows (types_of c.args.types.now.list.items) c.loop-step.name.text.now
    (out.IsNamed c.in-Some-Named.next.text.now) c.loop-step.step c.args.steps
    (named_place c.args.steps (types_of c.args.types.now.list.items) c.args.first.text.now) lt is
    c.loop-step.invariant)
