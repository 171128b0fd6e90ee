use Rattle.std.proofs.Common.{[], ◌∷◌}
use Rattle.registry_sessions.specs.Events.{Took}
use Rattle.registry_sessions.specs.Progress.{session_at}
use Rattle.oncrpc_sessions.proofs.Going.{goes_none, goes_same}
use Rattle.oncrpc_sessions.proofs.client.Client.write.Goals as goal

pub returns-then-not-is_to_be_written : goal.returns-then-not-is_to_be_written
returns-then-not-is_to_be_written c = λ rows. goes_none c.args.table.now rows

pub returns-in_default : goal.returns-in_default
returns-in_default c = λ rows. goes_none c.args.table.now rows

pub returns-in_default-2 : goal.returns-in_default-2
returns-in_default-2 c = λ rows. goes_none c.args.table.now rows

pub returns-in-Ok : goal.returns-in-Ok
returns-in-Ok c =
    goes_same c.args.table.now c.took.new.self (session_at c.args.table.now c.args.self.now.number)
    (Took c.args.self.now.number c.in-Ok.n ∷ []) c.took.ensures.proceeds c.took.ensures.same

pub returns-in-Err : goal.returns-in-Err
returns-in-Err c = λ rows. goes_none c.args.table.now rows
