use Rattle.std.proofs.Common.{rules, append_assoc}
use Rattle.oncrpc_service.proofs.refusal.status_line.Goals as goal

pub returns-in-ProgMismatch : goal.returns-in-ProgMismatch
returns-in-ProgMismatch c = rw c.in-ProgMismatch.is (search (rules, append_assoc))
