use Rattle.oncrpc_procedures.proofs.Cuts.{one_reading}
use Rattle.oncrpc_procedures.proofs.laws.names_have_one_reading.Goals as goal

pub returns : goal.returns
returns c = one_reading
