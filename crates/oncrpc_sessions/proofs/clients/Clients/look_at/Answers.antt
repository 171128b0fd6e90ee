use Rattle.oncrpc_sessions.proofs.Going.{goes_none}
use Rattle.oncrpc_sessions.proofs.clients.Clients.look_at.Goals as goal

pub returns-then-not-is_idle_at : goal.returns-then-not-is_idle_at
returns-then-not-is_idle_at c = λ rows. goes_none c.args.table.now rows
