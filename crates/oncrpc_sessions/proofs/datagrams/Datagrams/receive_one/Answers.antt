use Rattle.oncrpc_sessions.proofs.Going.{goes_none}
use Rattle.oncrpc_sessions.proofs.datagrams.Datagrams.receive_one.Goals as goal

pub returns-then-not-is_busy : goal.returns-then-not-is_busy
returns-then-not-is_busy g c = goes_none c.args.table.now c.args.directory.now

pub returns-in-Err : goal.returns-in-Err
returns-in-Err g c = goes_none c.args.table.now c.args.directory.now
