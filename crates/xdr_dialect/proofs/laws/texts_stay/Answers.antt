use Rattle.xdr_dialect.proofs.Staying.{texts_stay as each_stays}
use Rattle.xdr_dialect.proofs.laws.texts_stay.Goals as goal

pub returns : goal.returns
returns c = each_stays
