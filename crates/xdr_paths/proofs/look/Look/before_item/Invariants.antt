use Rattle.xdr_paths.proofs.Counted.{ItemsLeft}
use Rattle.xdr_paths.proofs.look.Look.before_item.Given as goal

abbrev pub invariant-loop-left : goal.invariant-loop-left
invariant-loop-left l =
    ItemsLeft l.self.schema.now.kinds l.self.limits l.self.bytes.now l.item.place l.count l.at l.index l.place l.left

abbrev pub decreases-loop-left : goal.decreases-loop-left
decreases-loop-left l = l.left
