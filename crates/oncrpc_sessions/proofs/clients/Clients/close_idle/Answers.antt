use Rattle.oncrpc_sessions.proofs.Going.{goes_none, goes_then}
use Rattle.oncrpc_sessions.proofs.clients.Clients.close_idle.Goals as goal

pub loop-place-init : goal.loop-place-init
loop-place-init c = λ rows. goes_none c.args.table.now rows

pub loop-place-preserved : goal.loop-place-preserved
loop-place-preserved c = λ rows.
    goes_then c.args.table.now _ c.look_at.new.table rows rows rows (c.loop-place.invariant rows)
    (c.look_at.ensures rows)
