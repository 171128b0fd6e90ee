use Rattle.oncrpc_sessions.proofs.Going.{goes_none}
use Rattle.oncrpc_sessions.proofs.rounds.Sockets.look.Goals as goal

pub returns-then-not-is_to_look : goal.returns-then-not-is_to_look
returns-then-not-is_to_look c = λ rows. goes_none c.args.table.now rows
