-- The exit status of a task that is stopped.
use Rattle.std.specs.Prelude.{ℕ}
use Rattle.oncrpc_answers.specs.declared.failure.Failure.{Failure}
use Rattle.oncrpc_answers.specs.declared.failure.Failure.TheVariants as failure
use Rattle.xdr_io.specs.declared.input.InputFault.{InputFault}
use Rattle.xdr_io.specs.declared.input.InputFault.TheVariants as input

-- 3 where a device failed or too many reads would be needed, and 4 for an allocation failure
abbrev pub failure_status : Failure → ℕ
failure_status failure.Read = 3
failure_status failure.Write = 3
failure_status failure.TooManyReads = 3
failure_status failure.NoMemory = 4

-- what the fault of an input is to a task
abbrev pub failure_of_input : InputFault → Failure
failure_of_input input.Read = failure.Read
failure_of_input input.TooManyReads = failure.TooManyReads
failure_of_input input.NoMemory = failure.NoMemory
