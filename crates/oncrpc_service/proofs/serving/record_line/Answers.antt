use Rattle.std.proofs.Common.{rules, append_assoc}
use Rattle.oncrpc_service.proofs.serving.record_line.Goals as goal

pub returns-in-TooLong : goal.returns-in-TooLong
returns-in-TooLong c = rw c.in-TooLong.is (search (rules, append_assoc))

pub returns-in-Truncated : goal.returns-in-Truncated
returns-in-Truncated c = rw c.in-Truncated.is (search (rules, append_assoc))

pub returns-in-NoMemory : goal.returns-in-NoMemory
returns-in-NoMemory c = rw c.in-NoMemory.is c.format-in-NoMemory.ensures.ok
