use Rattle.std.proofs.Common.{rules, append_assoc}
use Rattle.oncrpc_messages.proofs.fronts.why_text.Goals as goal

pub returns-in-RpcMismatch : goal.returns-in-RpcMismatch
returns-in-RpcMismatch c = rw c.in-RpcMismatch.is (search (rules, append_assoc))
