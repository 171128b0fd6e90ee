use Rattle.registry_callers.proofs.Told.{local_is_as_ever}
use Rattle.registry_callers.proofs.laws.local_is_as_ever.Goals as goal

pub returns : goal.returns
returns c = local_is_as_ever
