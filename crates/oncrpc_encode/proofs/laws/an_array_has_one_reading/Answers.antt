use Rattle.oncrpc_encode.proofs.Once.{one_reading}
use Rattle.oncrpc_encode.proofs.laws.an_array_has_one_reading.Goals as goal

pub returns : goal.returns
returns c = one_reading
