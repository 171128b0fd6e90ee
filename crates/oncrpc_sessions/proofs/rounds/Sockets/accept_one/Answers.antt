use Rattle.oncrpc_sessions.proofs.Going.{goes_none}
use Rattle.oncrpc_sessions.proofs.rounds.Sockets.accept_one.Goals as goal

pub returns-then-not-is_to_accept : goal.returns-then-not-is_to_accept
returns-then-not-is_to_accept c = λ rows. goes_none c.args.table.now rows

pub returns-in_default : goal.returns-in_default
returns-in_default c = λ rows. goes_none c.args.table.now rows
