use Rattle.xdr_types.proofs.InSets.{outside}
use Rattle.xdr_types.proofs.reach.has_number_outside.Goals as goal

pub returns : goal.returns
returns c = outside c.args.numbers.now c.args.cases.now c.is_subset.result c.is_subset.ensures
