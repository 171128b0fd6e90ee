use Rattle.oncrpc_sessions.proofs.Going.{goes_then}
use Rattle.oncrpc_sessions.proofs.rounds.Sockets.turns.Goals as goal

pub returns-then-open_count-before : goal.returns-then-open_count-before
returns-then-open_count-before g c =
    goes_then c.args.table.now _ c.look.new.table c.args.directory.now _ c.turns.new.directory c.turns.ensures
    (c.look.ensures _)

pub returns-else-open_count-before : goal.returns-else-open_count-before
returns-else-open_count-before g c =
    goes_then c.args.table.now _ c.look.new.table c.args.directory.now _ c.turns.new.directory c.turns.ensures
    (c.look.ensures _)
