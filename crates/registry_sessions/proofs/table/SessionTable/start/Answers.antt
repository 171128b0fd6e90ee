use Rattle.std.proofs.Common.{nat_eq, ap}
use Rattle.std.specs.Map.{lookup}
use Rattle.registry_sessions.proofs.Calls.{begins}
use Rattle.registry_sessions.proofs.table.SessionTable.start.Goals as goal

pub returns-clause-begun : goal.returns-clause-begun
returns-clause-begun c = begins _ (λ j. ap (λ entries. lookup (nat_eq j) entries) c.new.ensures.empty)
