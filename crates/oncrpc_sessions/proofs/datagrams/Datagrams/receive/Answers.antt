use Rattle.oncrpc_sessions.proofs.Going.{goes_none, goes_then}
use Rattle.oncrpc_sessions.proofs.datagrams.Datagrams.receive.Goals as goal

pub loop-init : goal.loop-init
loop-init g c = goes_none c.args.table.now c.args.directory.now

pub loop-preserved : goal.loop-preserved
loop-preserved g c =
    goes_then c.args.table.now c.args.table.now c.args.table.now c.args.directory.now _ c.receive_one.new.directory
    c.loop.invariant c.receive_one.ensures
