use Rattle.std.proofs.Common.{rules, append_assoc}
use Rattle.oncrpc_sessions.proofs.shortage.Shortage.line.Goals as goal

pub returns : goal.returns
returns c = search (rules, append_assoc)
