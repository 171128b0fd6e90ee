use Rattle.std.proofs.Common.{arith}
use Rattle.xdr_parts.proofs.Keeping.{counted_then}
use Rattle.xdr_parts.proofs.walk.Walk.counted.Goals as goal

pub leaf-requires-clause-few : goal.leaf-requires-clause-few
leaf-requires-clause-few c = omega (arith, c.in_ok-write.ensures.wrote.more, c.requires.few)

pub returns : goal.returns
returns c =
    let f = c.in_ok-write.ensures in
    counted_then c.leaf.result c.args.self.now c.write.new.self c.leaf.new.self c.args.next c.args.size
    c.whole_units.result _ f.wrote f.work f.parents c.whole_units.ensures c.leaf.ensures
