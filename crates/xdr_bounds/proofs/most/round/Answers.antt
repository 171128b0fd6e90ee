use Rattle.std.proofs.Common.{rules, arith}
use Rattle.std.proofs.lemmas.Grind.{common_steps}
use Rattle.xdr_bounds.specs.Private.Rounds.{KeepsKnown}
use Rattle.xdr_bounds.proofs.Settling.{known_trans}
use Rattle.xdr_bounds.proofs.most.round.Goals as goal

pub loop-place-preserved : goal.loop-place-preserved
loop-place-preserved c =
    let kept : KeepsKnown c.args.shapes.now.items c.args.amounts.now.items c.args.done.now.items
    c.settle.new.amounts.items c.settle.new.done.items =
    known_trans c.args.shapes.now.items c.args.amounts.now.items c.args.done.now.items c.loop-place.amounts.items
    c.loop-place.done.items c.settle.new.amounts.items c.settle.new.done.items c.loop-place.invariant.keeps
    c.settle.ensures.keeps in
    first_of (search rules, grind (arith, common_steps))
