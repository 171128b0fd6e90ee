use Rattle.registry_sessions.proofs.Alone.{steps_join}
use Rattle.registry_sessions.proofs.laws.steps_join.Goals as goal

pub returns : goal.returns
returns c = steps_join
