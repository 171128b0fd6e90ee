use Rattle.oncrpc_sessions.proofs.Going.{goes_none, goes_then}
use Rattle.oncrpc_sessions.proofs.clients.Clients.turn.Goals as goal

pub loop-place-init : goal.loop-place-init
loop-place-init g c = goes_none c.args.table.now c.args.directory.now

pub loop-place-preserved : goal.loop-place-preserved
loop-place-preserved g c =
    goes_then c.args.table.now _ c.turn_at.new.table c.args.directory.now _ c.turn_at.new.directory
    c.loop-place.invariant c.turn_at.ensures
