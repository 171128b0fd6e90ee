use Rattle.registry_callers.proofs.Owning.{user_is_owner}
use Rattle.registry_callers.proofs.laws.user_is_owner.Goals as goal

pub returns : goal.returns
returns c = user_is_owner
