use Rattle.oncrpc_sessions.proofs.Going.{goes_none, goes_then}
use Rattle.oncrpc_sessions.proofs.clients.Clients.turn_at.Goals as goal

pub returns-in_default : goal.returns-in_default
returns-in_default g c = goes_none c.args.table.now c.args.directory.now

pub returns-in_default-slot : goal.returns-in_default-slot
returns-in_default-slot g c = goes_none c.args.table.now c.args.directory.now

pub returns-then-is_done : goal.returns-then-is_done
returns-then-is_done g c =
    goes_then c.args.table.now _ c.close_at.new.table c.args.directory.now _ c.turn.new.directory c.turn.ensures
    (c.close_at.ensures _)
