use Rattle.oncrpc_sessions.proofs.Going.{goes_then}
use Rattle.oncrpc_sessions.proofs.client.Client.turn.Goals as goal

pub returns : goal.returns
returns g c =
    goes_then c.args.table.now _ c.write.new.table c.args.directory.now _ c.take_in.new.directory
    (goes_then c.args.table.now _ _ c.args.directory.now c.args.directory.now _ (c.read.ensures _) c.take_in.ensures)
    (c.write.ensures _)
