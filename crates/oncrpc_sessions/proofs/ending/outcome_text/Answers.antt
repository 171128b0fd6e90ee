use Rattle.std.proofs.Common.{rules, append_assoc}
use Rattle.oncrpc_sessions.proofs.ending.outcome_text.Goals as goal

pub returns-in-Done : goal.returns-in-Done
returns-in-Done c = rw c.in-Done.is (search (rules, append_assoc))
