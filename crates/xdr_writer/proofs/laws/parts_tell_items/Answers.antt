use Rattle.xdr_writer.proofs.Told.{parts_tell_items}
use Rattle.xdr_writer.proofs.laws.parts_tell_items.Goals as goal

pub returns : goal.returns
returns c = λ s. parts_tell_items s
