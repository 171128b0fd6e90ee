use Rattle.oncrpc_sessions.proofs.Going.{goes_none, goes_then}
use Rattle.oncrpc_sessions.proofs.rounds.Sockets.accept.Goals as goal

pub loop-init : goal.loop-init
loop-init c = λ rows. goes_none c.args.table.now rows

pub loop-preserved : goal.loop-preserved
loop-preserved c = λ rows.
    goes_then c.args.table.now _ c.accept_one.new.table rows rows rows (c.loop.invariant rows)
    (c.accept_one.ensures rows)
