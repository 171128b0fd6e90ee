use Rattle.registry_callers.proofs.Told.{others_are_as_ever}
use Rattle.registry_callers.proofs.laws.others_are_as_ever.Goals as goal

pub returns : goal.returns
returns c = others_are_as_ever
