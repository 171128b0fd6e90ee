use Rattle.xdr_writer.proofs.ItemsOf.{items_join}
use Rattle.xdr_writer.proofs.laws.items_join.Goals as goal

pub returns : goal.returns
returns c = λ s. items_join s
