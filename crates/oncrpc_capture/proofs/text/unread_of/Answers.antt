use Rattle.std.proofs.Common.{rules, append_assoc}
use Rattle.oncrpc_capture.proofs.text.unread_of.Goals as goal

pub returns-in-Lines : goal.returns-in-Lines
returns-in-Lines c = rw c.in-Lines.is (search (rules, append_assoc))

pub returns-in-Json : goal.returns-in-Json
returns-in-Json c = rw c.in-Json.is (search (rules, append_assoc))
