-- What is said where nothing is looked for.
use Rattle.std.proofs.Common.{◌≡◌, ℕ, List, Option, subst, string_bytes}
use Rattle.oncrpc_answers.specs.declared.task.ValueTask.{ValueTask}
use Rattle.oncrpc_tasks.specs.Checked.{IsSaid}
use Rattle.oncrpc_tasks.specs.Devices.{Stream}
use Rattle.oncrpc_tasks.specs.Refusals.{IsReason, refusal_line}
use Rattle.oncrpc_tasks.specs.Status.{Ends}
use Rattle.oncrpc_tasks.specs.declared.unusable.Unusable.{Unusable}
use Rattle.oncrpc_encode.specs.EncodeEnds.{SaysReason}

-- it is the line of the reason
pub told_of : {F : Type 0} (reported : List ℕ → Option (List ℕ)) (what : ValueTask) (stream : Stream F)
    (faults faults' : F) (status : ℕ) (why : Unusable) → IsReason reported what why → Ends why status
    → (status ≡ 2 → IsSaid stream faults faults' (refusal_line (string_bytes what.name) what.types.files.items why))
    → status ≡ 2 → SaysReason reported what stream faults faults'
told_of reported what stream faults faults' status why reason ends said two = record {
  why = why;
  status = subst (λ (s : ℕ). Ends why s) two ends;
  reason = reason;
  said = said two;
}
