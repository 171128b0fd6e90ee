use Rattle.std.proofs.Common.{rules, append_assoc}
use Rattle.oncrpc_service.proofs.serving.connection_line.Goals as goal

pub returns-in-Ok : goal.returns-in-Ok
returns-in-Ok c = rw c.in-Ok.is (search (rules, append_assoc))
