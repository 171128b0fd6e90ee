use Rattle.registry_callers.proofs.Told.{remote_is_denied}
use Rattle.registry_callers.proofs.laws.remote_is_denied.Goals as goal

pub returns : goal.returns
returns c = remote_is_denied c.call_bytes_are_exact.ensures
