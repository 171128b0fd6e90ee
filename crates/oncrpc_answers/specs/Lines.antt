-- The lines that say what an input holds, and their statuses; those of what stops a task.
use Rattle.std.specs.Prelude.{ℕ, List, ◌++◌, codes, decimal}
use Rattle.xdr_stream.specs.declared.fault.Reason.{Reason}
use Rattle.xdr_stream.specs.declared.fault.Reason.TheVariants as reason
use Rattle.oncrpc_answers.specs.declared.answer.Answer.{Answer}
use Rattle.oncrpc_answers.specs.declared.answer.Answer.TheVariants as answer
use Rattle.oncrpc_answers.specs.declared.failure.Failure.{Failure}
use Rattle.oncrpc_answers.specs.declared.failure.Failure.TheVariants as failure

-- 0 where there is a value, 1 where the bytes are refused
abbrev pub line_status : Answer → ℕ
line_status (answer.Whole used) = 0
line_status (answer.MoreFollows used) = 0
line_status _ = 1

-- the name of a refusal
abbrev pub name : Reason → List ℕ
name reason.BadBool = codes "BadBool"
name reason.BadNumbered = codes "BadNumbered"
name reason.BadCase = codes "BadCase"
name reason.TooLong = codes "TooLong"
name reason.BadPadding = codes "BadPadding"
name reason.TooDeep = codes "TooDeep"
name reason.TooLarge = codes "TooLarge"
name reason.Truncated = codes "Truncated"
name reason.NoMemory = codes "NoMemory"

-- the line of an answer, which ends with a line feed
abbrev pub line : Answer → List ℕ
line (answer.Whole used) = codes "ok " ++ decimal used ++ codes "\n"
line (answer.MoreFollows used) = codes "ok " ++ decimal used ++ codes ", more follows\n"
line (answer.Refused f) = codes "refused " ++ name f.why ++ codes " at " ++ decimal f.at ++ codes "\n"
line answer.BadHex = codes "refused bad hex\n"
line answer.HexTooLong = codes "refused hex too long\n"

-- the line of a device that failed, of too many reads, and of an allocation failure
abbrev pub failure_line : Failure → List ℕ
failure_line failure.Read = codes "read fault\n"
failure_line failure.Write = codes "write fault\n"
failure_line failure.TooManyReads = codes "too many reads\n"
failure_line failure.NoMemory = codes "out of memory\n"
