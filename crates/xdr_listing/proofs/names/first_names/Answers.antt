use Rattle.std.proofs.Common.{length, arith, rules}
use Rattle.xdr_listing.proofs.Firsts.{of_none, of_all, one_more}
use Rattle.xdr_listing.proofs.names.first_names.Goals as goal

pub loop-index-init : goal.loop-index-init
loop-index-init c =
    of_none c.args.names.now (length c.args.names.now) c.new-firsts.result.items (omega arith) (search rules)

pub loop-index-preserved : goal.loop-index-preserved
loop-index-preserved c =
    one_more c.args.names.now c.loop-index.index c.index-names-index.result _ c.loop-index-test.true (omega arith)
    c.index-names-index.is (c.in_ok-put_first.ensures _ c.loop-index.invariant)

pub returns : goal.returns
returns c = of_all c.args.names.now c.loop-index.index _ (omega arith) c.loop-index.invariant
