-- How an input was read, and why reading it gave no answer.
use Rattle.std.specs.Prelude.{ℕ, Bool, List, Option, Result, OnOk, IsErrOf}
use Rattle.xdr_io.specs.Reported.{Counts, CountsAtMost, MovesAtMost}
use Rattle.xdr_io.specs.declared.input.TheConstants.{MOST_READS}
use Rattle.oncrpc_answers.specs.declared.failure.Failure.{Failure}
use Rattle.oncrpc_answers.specs.declared.failure.Failure.TheVariants as failure
use Rattle.oncrpc_tasks.specs.Devices.{Reports}
use Rattle.oncrpc_tasks.specs.Ends.{NeedsMore, StopsReading}
use Rattle.oncrpc_tasks.specs.Input.{most_read}
use Rattle.oncrpc_tasks.specs.Right.{Question}

-- An input was read by no more than the most reads, to at most a page past the limit, and no further once the answer
-- was settled.
pub record ReadsInput (q : Question) (hex : Bool) (left left' : Option (List ℕ)) (reads reads' : Option ℕ)
    : Type 0 where
  pub few_reads : CountsAtMost MOST_READS reads reads'
  pub bounded : MovesAtMost (most_read hex q.limits.bytes) left left'
  pub stops : StopsReading q hex left left' reads reads'

-- Where reading gives an answer, no read failed. Else one did, or as many were made as there may be, and what was read
-- settles no answer; or memory was refused.
pub record EndsReading {R : Type 0} (q : Question) (hex : Bool) (left left' : Option (List ℕ))
    (reads reads' failures failures' : Option ℕ) (result : Result R Failure) : Type 0 where
  pub none_failed : OnOk result (Counts 0 failures failures')
  pub read : IsErrOf result failure.Read → Counts 1 failures failures' × NeedsMore q hex left left'
  pub many : IsErrOf result failure.TooManyReads → Counts MOST_READS reads reads' × NeedsMore q hex left left'
  pub no_write : IsErrOf result failure.Write → ⊥

-- A failure that ends the work is its device's, and where the work is done no device failed.
pub record EndsByDevice {I O R : Type 0} (reports : Reports I O) (input input' : I) (output output' : O)
    (result : Result R Failure) : Type 0 where
  pub unfailed : OnOk result (Counts 0 (reports.failures input) (reports.failures input'))
  pub unlost : OnOk result (Counts 0 (reports.lost output) (reports.lost output'))
  pub read : IsErrOf result failure.Read → Counts 1 (reports.failures input) (reports.failures input')
  pub many : IsErrOf result failure.TooManyReads → Counts MOST_READS (reports.reads input) (reports.reads input')
  pub write : IsErrOf result failure.Write → Counts 1 (reports.lost output) (reports.lost output')
