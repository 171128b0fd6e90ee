use Rattle.registry_sessions.specs.Progress.{session_at, next_of}
use Rattle.registry_sessions.proofs.Alone.{interleaves}
use Rattle.registry_sessions.proofs.laws.tables_interleave.Goals as goal

pub returns : goal.returns
returns c = λ rows new events table sent h. interleaves rows new events (session_at table) (next_of table) sent h
