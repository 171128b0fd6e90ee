use Rattle.xdr_writer.proofs.Taken.{items_are_taken}
use Rattle.xdr_writer.proofs.laws.items_are_taken.Goals as goal

pub returns : goal.returns
returns c = λ s. items_are_taken s
