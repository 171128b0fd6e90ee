use Rattle.std.proofs.Common.{[], ◌∷◌}
use Rattle.registry_sessions.specs.Events.{Ends}
use Rattle.oncrpc_sessions.proofs.Going.{goes_if}
use Rattle.oncrpc_sessions.proofs.client.Client.close.Goals as goal

pub returns : goal.returns
returns c =
    goes_if c.args.table.now c.close-session.new.self c.close-session.result (Ends c.args.self.now.number ∷ [])
    c.close-session.ensures.proceeds c.close-session.ensures.stays
