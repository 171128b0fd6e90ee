use Rattle.oncrpc_sessions.proofs.Going.{goes_none, goes_then}
use Rattle.oncrpc_sessions.proofs.clients.Clients.turns.Goals as goal

pub loop-init : goal.loop-init
loop-init g c = goes_none c.args.table.now c.args.directory.now

pub returns-then-is_enough : goal.returns-then-is_enough
returns-then-is_enough g c =
    goes_then c.args.table.now _ c.turn.new.table c.args.directory.now _ c.turn.new.directory c.loop.invariant
    c.turn.ensures

pub loop-preserved : goal.loop-preserved
loop-preserved g c =
    goes_then c.args.table.now _ c.turn.new.table c.args.directory.now _ c.turn.new.directory c.loop.invariant
    c.turn.ensures
