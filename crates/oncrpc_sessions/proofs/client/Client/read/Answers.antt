use Rattle.oncrpc_sessions.proofs.Going.{goes_none}
use Rattle.oncrpc_sessions.proofs.client.Client.read.Goals as goal

pub returns-then-not-is_to_be_read : goal.returns-then-not-is_to_be_read
returns-then-not-is_to_be_read c = λ rows. goes_none c.args.table.now rows

pub returns-in-Ok : goal.returns-in-Ok
returns-in-Ok c = λ rows. goes_none c.args.table.now rows

pub returns-in-Err : goal.returns-in-Err
returns-in-Err c = λ rows. goes_none c.args.table.now rows
