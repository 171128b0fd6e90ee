-- What the reader and the writer of a task tell, and how it is reported that one of them failed.
use Rattle.std.specs.Prelude.{ℕ, List, Option}
use Rattle.xdr_io.specs.Reported.{Counts}
use Rattle.xdr_io.specs.declared.input.TheConstants.{MOST_READS}
use Rattle.oncrpc_answers.specs.declared.failure.Failure.{Failure}
use Rattle.oncrpc_answers.specs.declared.failure.Failure.TheVariants as failure

-- What a reader and a writer tell: the bytes that are left, the reads, and those that failed; the bytes that were
-- taken, and the writes that failed.
pub record Reports (I O : Type 0) : Type 0 where
  pub left : I → Option (List ℕ)
  pub reads : I → Option ℕ
  pub failures : I → Option ℕ
  pub taken : O → Option (List ℕ)
  pub lost : O → Option ℕ

-- What a stream of faults tells: the bytes that were taken, and the writes that failed.
pub record Stream (F : Type 0) : Type 0 where
  pub taken : F → Option (List ℕ)
  pub lost : F → Option ℕ

-- how a device's failure is reported: a read that failed, a write that failed, or as many reads as there may be
abbrev pub Fails : {I O : Type 0} → Reports I O → (input input' : I) → (output output' : O) → Failure → Type 0
Fails reports input input' output output' failure.Read = Counts 1 (reports.failures input) (reports.failures input')
Fails reports input input' output output' failure.Write = Counts 1 (reports.lost output) (reports.lost output')
Fails reports input input' output output' failure.TooManyReads =
    Counts MOST_READS (reports.reads input) (reports.reads input')
Fails reports input input' output output' failure.NoMemory = ⊥
