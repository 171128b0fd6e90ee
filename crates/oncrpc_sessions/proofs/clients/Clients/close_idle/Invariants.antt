use Rattle.std.proofs.Common.{List}
use Rattle.registry_rows.specs.Rows.{Row}
use Rattle.oncrpc_sessions.specs.Loops.{Goes}
use Rattle.oncrpc_sessions.proofs.clients.Clients.close_idle.Given as goal

abbrev pub invariant-loop-place : goal.invariant-loop-place
invariant-loop-place l = (rows : List Row) → Goes l.fn.table l.table rows rows
