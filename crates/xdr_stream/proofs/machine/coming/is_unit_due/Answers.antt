use Rattle.std.proofs.Common.{◌<◌, length, subst, arith}
use Rattle.xdr_types.specs.KindViews.{kind_view}
use Rattle.xdr_stream.specs.Steps.{IsStep}
use Rattle.xdr_stream.specs.declared.machine.step.Step.{Step}
use Rattle.xdr_stream.proofs.SeeingNodes.{is_next, ready_next}
use Rattle.xdr_stream.proofs.machine.coming.is_unit_due.Goals as goal

pub returns-in-Unit-clause-ready : goal.returns-in-Unit-clause-ready
returns-in-Unit-clause-ready c = λ _.
    let shallow : length c.args.parents.now.items < c.args.limits.depth =
    omega (arith, c.if-depth-len.false, c.len.ensures, c.depth.ensures.value) in
    let n = is_next c.args.schema.now.kinds c.args.limits c.args.work.now c.args.parents.now.items c.args.id.place
    (kind_view c.args.kind.now) c.requires.first c.requires.kind shallow in
    ready_next c.args.schema.now.kinds c.args.limits c.args.work.now c.args.parents.now.items
    (kind_view c.args.kind.now) n
    (subst (λ (t : Step). IsStep (kind_view c.args.kind.now) t) c.in-Unit.is c.step_of.ensures)
