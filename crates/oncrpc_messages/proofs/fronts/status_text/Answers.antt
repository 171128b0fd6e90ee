use Rattle.std.proofs.Common.{rules, append_assoc}
use Rattle.oncrpc_messages.proofs.fronts.status_text.Goals as goal

pub returns-in-ProgMismatch : goal.returns-in-ProgMismatch
returns-in-ProgMismatch c = rw c.in-ProgMismatch.is (search (rules, append_assoc))
