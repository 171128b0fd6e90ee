use Rattle.registry_callers.proofs.Owning.{nobody_afar_is_superuser}
use Rattle.registry_callers.proofs.laws.nobody_afar_is_superuser.Goals as goal

pub returns : goal.returns
returns c = nobody_afar_is_superuser
