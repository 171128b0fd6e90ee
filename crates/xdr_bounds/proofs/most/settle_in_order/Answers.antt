use Rattle.xdr_bounds.proofs.Settling.{known_trans}
use Rattle.xdr_bounds.proofs.most.settle_in_order.Goals as goal

pub returns-in_err-settle_next-in-Some : goal.returns-in_err-settle_next-in-Some
returns-in_err-settle_next-in-Some c =
    known_trans c.args.shapes.now.items c.args.amounts.now.items c.args.done.now.items c.loop-place.amounts.items
    c.loop-place.done.items c.settle_next.new.amounts.items c.settle_next.new.done.items c.loop-place.invariant
    c.in_err-settle_next-in-Some.ensures

pub loop-place-preserved : goal.loop-place-preserved
loop-place-preserved c =
    known_trans c.args.shapes.now.items c.args.amounts.now.items c.args.done.now.items c.loop-place.amounts.items
    c.loop-place.done.items c.settle_next.new.amounts.items c.settle_next.new.done.items c.loop-place.invariant
    c.in_ok-settle_next-in-Some.ensures
