use Rattle.xdr_bounds.proofs.Lowering.{keeps_trans}
use Rattle.xdr_bounds.proofs.fewest.lower_in_order.Goals as goal

pub returns-in_err-offer_all : goal.returns-in_err-offer_all
returns-in_err-offer_all c =
    keeps_trans c.args.shapes.now.items c.args.amounts.now.items c.loop-place.amounts.items
    c.offer_all.new.amounts.items c.loop-place.invariant c.in_err-offer_all.ensures

pub returns-in_err-free-in-Some : goal.returns-in_err-free-in-Some
returns-in_err-free-in-Some c =
    keeps_trans c.args.shapes.now.items c.args.amounts.now.items c.loop-place.amounts.items
    c.offer_all.new.amounts.items c.loop-place.invariant c.in_ok-offer_all.ensures

pub returns-in-None : goal.returns-in-None
returns-in-None c =
    keeps_trans c.args.shapes.now.items c.args.amounts.now.items c.loop-place.amounts.items
    c.offer_all.new.amounts.items c.loop-place.invariant c.in_ok-offer_all.ensures
