use Rattle.std.proofs.Common.{List}
use Rattle.registry_rows.specs.Rows.{Row}
use Rattle.oncrpc_sessions.specs.Loops.{Goes}
use Rattle.oncrpc_sessions.proofs.rounds.Sockets.accept.Given as goal

abbrev pub invariant-loop : goal.invariant-loop
invariant-loop l = (rows : List Row) → Goes l.fn.table l.table rows rows
