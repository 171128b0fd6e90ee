use Rattle.oncrpc_sessions.specs.Loops.{Goes}
use Rattle.oncrpc_sessions.proofs.clients.Clients.turn.Given as goal

abbrev pub invariant-loop-place : goal.invariant-loop-place
invariant-loop-place g l = Goes l.fn.table l.table l.fn.directory l.directory
