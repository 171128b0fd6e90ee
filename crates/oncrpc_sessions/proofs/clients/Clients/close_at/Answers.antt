use Rattle.oncrpc_sessions.proofs.Going.{goes_none}
use Rattle.oncrpc_sessions.proofs.clients.Clients.close_at.Goals as goal

pub returns-in_default : goal.returns-in_default
returns-in_default c = λ rows. goes_none c.args.table.now rows

pub returns-in_default-slot : goal.returns-in_default-slot
returns-in_default-slot c = λ rows. goes_none c.args.table.now rows
