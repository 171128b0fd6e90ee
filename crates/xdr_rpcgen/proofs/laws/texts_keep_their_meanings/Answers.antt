use Rattle.xdr_rpcgen.proofs.Keeping.{keeps_meanings}
use Rattle.xdr_rpcgen.proofs.laws.texts_keep_their_meanings.Goals as goal

pub returns : goal.returns
returns c = keeps_meanings
