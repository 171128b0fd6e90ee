-- What is said of texts that declare nothing.
use Rattle.std.proofs.Common.{◌≡◌, ℕ, List, [], Option, String, arith}
use Rattle.std.specs.declared.alloc.Global.{Global}
use Rattle.oncrpc_answers.specs.declared.failure.Failure.TheVariants as failure
use Rattle.oncrpc_answers.specs.declared.task.TypesTask.{TypesTask}
use Rattle.oncrpc_tasks.specs.Checked.{IsSaid}
use Rattle.oncrpc_tasks.specs.Devices.{Stream}
use Rattle.oncrpc_tasks.specs.Refusals.{refusal_line}
use Rattle.oncrpc_tasks.specs.Sources.{HasNone}
use Rattle.oncrpc_tasks.specs.Status.{Ends}
use Rattle.oncrpc_tasks.specs.declared.unusable.Unusable.{Unusable}
use Rattle.oncrpc_tasks.specs.declared.unusable.Unusable.TheVariants as unusable
use Rattle.oncrpc_types.specs.TypesEnd.{SaysFault}

module _ {F : Type 0} (reported : List ℕ → Option (List ℕ)) (what : TypesTask) (stream : Stream F) (faults faults' : F)
    (status : ℕ) where
  -- at 2 it is the line of a fault
  pub told_of : (why : Unusable) → HasNone reported what.types why → Ends why status
      → (status ≡ 2 → IsSaid stream faults faults' (refusal_line [] what.types.files.items why))
      → status ≡ 2 → SaysFault what stream faults faults'
  told_of (unusable.Declaration file fault) none ends said two =
      record { file = file; fault = fault; said = said two }
  told_of unusable.Name none ends said two = absurd none
  told_of unusable.Limits none ends said two = absurd none
  told_of (unusable.Failed failure.Read) none ends said two = absurd (omega (arith, ends, two))
  told_of (unusable.Failed failure.Write) none ends said two = absurd (omega (arith, ends, two))
  told_of (unusable.Failed failure.TooManyReads) none ends said two = absurd (omega (arith, ends, two))
  told_of (unusable.Failed failure.NoMemory) none ends said two = absurd (omega (arith, ends, two))
