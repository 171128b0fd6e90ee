-- How many reads and writes failed, by the answer.
use Rattle.std.specs.Prelude.{ℕ, Result, Ok, Err}
use Rattle.rpc_record.specs.declared.fault.RecordFault.{RecordFault}
use Rattle.rpc_record.specs.declared.fault.RecordFault.TheVariants as fault

-- `Read` is one failed read, and the other faults are none
abbrev pub reads_failed : RecordFault → ℕ
reads_failed fault.Read = 1
reads_failed _ = 0

-- how many reads failed before an answer
abbrev pub read_failures : {T : Type 0} → Result T RecordFault → ℕ
read_failures (Ok x) = 0
read_failures (Err f) = reads_failed f

-- `Write` is one failed write, and the other faults are none
abbrev pub writes_failed : RecordFault → ℕ
writes_failed (fault.Write written) = 1
writes_failed _ = 0

-- how many writes failed before an answer
abbrev pub write_failures : {T : Type 0} → Result T RecordFault → ℕ
write_failures (Ok x) = 0
write_failures (Err f) = writes_failed f
