use Rattle.std.proofs.Common.{arith}
use Rattle.xdr_paths.proofs.Counted.{sized_item, item_left, item_passed, item_reached}
use Rattle.xdr_paths.proofs.look.Look.before_item.Goals as goal

pub returns-in-Some : goal.returns-in-Some
returns-in-Some c =
    λ depth vs s. sized_item c.args.self.now.schema.now.kinds c.args.self.now.limits c.args.self.now.bytes.now
    c.args.item.place c.in-Some.extent.bytes c.in-Some.ensures.bytes c.args.index c.args.count c.args.at depth vs
    c.requires.more s

pub end_of-requires : goal.end_of-requires
end_of-requires c =
    item_left c.args.self.now.schema.now.kinds c.args.self.now.limits c.args.self.now.bytes.now c.args.item.place
    c.args.count c.args.at c.args.index c.loop-left.place c.loop-left.left c.requires.some c.loop-left.invariant

pub loop-left-preserved : goal.loop-left-preserved
loop-left-preserved c =
    item_passed c.args.self.now.schema.now.kinds c.args.self.now.limits c.args.self.now.bytes.now c.args.item.place
    c.args.count c.args.at c.args.index c.loop-left.place c.loop-left.left c.in_ok-place.place c.loop-left-test.true
    c.loop-left.invariant c.in_ok-place.ensures

pub returns : goal.returns
returns c =
    item_reached c.args.self.now.schema.now.kinds c.args.self.now.limits c.args.self.now.bytes.now c.args.item.place
    c.args.count c.args.at c.args.index c.loop-left.place c.loop-left.left (omega (arith, c.loop-left-test.false))
    c.loop-left.invariant
