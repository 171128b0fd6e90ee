use Rattle.oncrpc_sessions.specs.Loops.{Goes}
use Rattle.oncrpc_sessions.proofs.clients.Clients.turns.Given as goal

abbrev pub invariant-loop : goal.invariant-loop
invariant-loop g l = Goes l.fn.table l.table l.fn.directory l.directory
