use Rattle.oncrpc_sessions.proofs.Going.{goes_none, goes_then}
use Rattle.oncrpc_sessions.proofs.rounds.Sockets.round.Goals as goal

pub returns-in_err-now : goal.returns-in_err-now
returns-in_err-now g c = goes_none c.args.table.now c.args.directory.now

pub returns : goal.returns
returns g c =
    goes_then c.args.table.now _ c.turns.new.table c.args.directory.now _ c.turns.new.directory
    (goes_then c.args.table.now _ _ c.args.directory.now c.args.directory.now _ (c.accept.ensures _) c.receive.ensures)
    c.turns.ensures
