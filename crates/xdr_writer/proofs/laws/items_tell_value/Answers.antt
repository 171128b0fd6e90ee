use Rattle.xdr_writer.proofs.Begin.{items_tell_value}
use Rattle.xdr_writer.proofs.laws.items_tell_value.Goals as goal

pub returns : goal.returns
returns c = λ s. items_tell_value s
