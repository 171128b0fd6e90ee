use Rattle.registry_sessions.proofs.Alone.{alone_serves}
use Rattle.registry_sessions.proofs.laws.one_connection_is_served.Goals as goal

pub returns : goal.returns
returns c = alone_serves c.local_is_as_ever.ensures
