-- How writing the bytes of a value ends that is read as JSON: what the exit status says of what was read and written.
use Rattle.std.specs.Prelude.{◌≡◌, ◌≢◌, ◌⊎◌, ℕ, ◌+◌, ◌≤◌, ◌<◌, Bool, List, length, take, Option, Vec, string_bytes}
use Rattle.std.specs.declared.alloc.Global.{Global}
use Rattle.std.specs.Io.KnownBytes.{Appends}
use Rattle.xdr_io.specs.Reported.{Counts, CountsAtMost, MovesAtMost}
use Rattle.xdr_io.specs.declared.input.TheConstants.{MOST_READS}
use Rattle.oncrpc_answers.specs.declared.failure.Failure.{Failure}
use Rattle.oncrpc_answers.specs.declared.failure.Failure.TheVariants as failure
use Rattle.oncrpc_answers.specs.declared.task.ValueTask.{ValueTask}
use Rattle.oncrpc_answers.specs.Lines.{failure_line}
use Rattle.oncrpc_answers.specs.Status.{failure_status}
use Rattle.oncrpc_tasks.specs.Checked.{IsSaid}
use Rattle.oncrpc_tasks.specs.Devices.{Fails, Reports, Stream}
use Rattle.oncrpc_tasks.specs.Ends.{IsUnasked}
use Rattle.oncrpc_tasks.specs.Refusals.{IsReason, refusal_line as reason_line}
use Rattle.oncrpc_tasks.specs.Sources.{AreReported}
use Rattle.oncrpc_tasks.specs.Status.{Ends}
use Rattle.oncrpc_tasks.specs.Tasks.{Asks}
use Rattle.oncrpc_tasks.specs.declared.question.Form.{Form}
use Rattle.oncrpc_tasks.specs.declared.unusable.Unusable.{Unusable}
use Rattle.oncrpc_encode.specs.Encoding.{Sought, IsRightFor, most_text}
use Rattle.oncrpc_encode.specs.Lines.{written_in, refusal_line}
use Rattle.oncrpc_encode.specs.declared.encoded.Encoded.TheVariants as encoded
use Rattle.oncrpc_encode.specs.declared.refusal.Refusal.{Refusal}

-- The bytes of the value that the input spells were written, and nothing else.
pub record Writes (s : Sought) (hex : Bool) (left taken taken' : Option (List ℕ)) : Type 0 where
  pub bytes : Vec ℕ Global
  pub right : IsRightFor s left (encoded.Bytes bytes)
  pub written : Appends taken taken' (written_in hex bytes.items)

-- The beginning of that was written, and not all of it.
pub record WritesInPart (s : Sought) (hex : Bool) (left taken taken' : Option (List ℕ)) : Type 0 where
  pub bytes : Vec ℕ Global
  pub right : IsRightFor s left (encoded.Bytes bytes)
  pub count : ℕ
  pub cut : count < length (written_in hex bytes.items)
  pub written : Appends taken taken' (take count (written_in hex bytes.items))

-- The input spells no value, and the line of its refusal was said, as far as the stream of faults took it.
pub record Refuses {F : Type 0} (s : Sought) (left : Option (List ℕ)) (stream : Stream F) (faults faults' : F)
    : Type 0 where
  pub refusal : Refusal
  pub right : IsRightFor s left (encoded.Refused refusal)
  pub said : IsSaid stream faults faults' (refusal_line refusal)

-- what failed: a read, a write, or as many reads were made as there may be
abbrev pub DeviceFails : {I O : Type 0} → Reports I O → (input input' : I) → (output output' : O) → Type 0
DeviceFails reports input input' output output' =
    Counts 1 (reports.failures input) (reports.failures input')
    ⊎ (Counts 1 (reports.lost output) (reports.lost output')
    ⊎ Counts MOST_READS (reports.reads input) (reports.reads input'))

-- A device failed, too many reads were made, or memory was refused. Its line was said, as far as the stream of faults
-- took it, and the status is its own. No other fault hides a read that failed.
pub record FailureSaid {I O F : Type 0} (reports : Reports I O) (stream : Stream F) (input input' : I)
    (output output' : O) (faults faults' : F) (status : ℕ) : Type 0 where
  pub why : Failure
  pub fails : why ≢ failure.NoMemory → Fails reports input input' output output' why
  pub unfailed : why ≢ failure.Read → Counts 0 (reports.failures input) (reports.failures input')
  pub status_is : status ≡ failure_status why
  pub said : IsSaid stream faults faults' (failure_line why)

-- What the status says where a value is looked for: 0 its bytes were written; 1 there are none; 3 a device failed; 4
-- memory was refused. But for 0 it is said which. But for 0, and for 3 where a write failed, nothing was written.
pub record ValueEncodes {I O F : Type 0} (s : Sought) (hex : Bool) (reports : Reports I O) (stream : Stream F)
    (input input' : I) (output output' : O) (faults faults' : F) (status : ℕ) : Type 0 where
  pub known : status ≤ 4
  pub asked : status ≡ 2 → ⊥
  pub writes : status ≡ 0 → Writes s hex (reports.left input) (reports.taken output) (reports.taken output')
  pub silent : status ≡ 0 → faults' ≡ faults
  pub refuses : status ≡ 1 → Refuses s (reports.left input) stream faults faults'
  pub unwritten : status ≡ 1 → output' ≡ output
  pub unfailed : status ≤ 1 → Counts 0 (reports.failures input) (reports.failures input')
  pub unlost : status ≤ 1 → Counts 0 (reports.lost output) (reports.lost output')
  pub device : status ≡ 3 → DeviceFails reports input input' output output'
  pub in_part : status ≡ 3 → (output' ≡ output)
      ⊎ WritesInPart s hex (reports.left input) (reports.taken output) (reports.taken output')
  pub wanting : status ≡ 4 → output' ≡ output
  pub told : 3 ≤ status → FailureSaid reports stream input input' output output' faults faults' status
  pub few_reads : CountsAtMost MOST_READS (reports.reads input) (reports.reads input')
  pub bounded : MovesAtMost (most_text s + 4096) (reports.left input) (reports.left input')

-- With these texts of declarations the words name the kind, and the limits are in their ranges.
abbrev pub Seeks : (texts : List (List ℕ)) → ValueTask → Sought → Type 0
Seeks texts what s = (form : Form)
    → Asks texts what form (record { kinds = s.kinds; place = s.place; limits = s.limits; form = form })

-- The value that words ask for, by texts of declarations that are reported, was looked for in the input.
pub record IsLookedFor {I O F : Type 0} (reported : List ℕ → Option (List ℕ)) (what : ValueTask)
    (reports : Reports I O) (stream : Stream F) (input input' : I) (output output' : O) (faults faults' : F)
    (status : ℕ) : Type 0 where
  pub texts : List (List ℕ)
  pub are_reported : AreReported reported what.types.files.items texts
  pub sought : Sought
  pub seeks : Seeks texts what sought
  pub ends : ValueEncodes sought what.hex reports stream input input' output output' faults faults' status

-- The line of the reason for which nothing was looked for was said, as far as the stream of faults took it. The reason
-- is no failure. Which fault a text has, and where, is not told.
pub record SaysReason {F : Type 0} (reported : List ℕ → Option (List ℕ)) (what : ValueTask) (stream : Stream F)
    (faults faults' : F) : Type 0 where
  pub why : Unusable
  pub status : Ends why 2
  pub reason : IsReason reported what why
  pub said : IsSaid stream faults faults' (reason_line (string_bytes what.name) what.types.files.items why)

-- Words ask for the bytes of a value: it was looked for; or not, and then nothing was read and nothing written. `file`
-- says that the declarations were not read.
abbrev pub EncodeEnds : {I O F : Type 0} → (List ℕ → Option (List ℕ)) → ValueTask → (file : Type 0)
    → Reports I O
    → Stream F
    → (input input' : I)
    → (output output' : O)
    → (faults faults' : F)
    → ℕ
    → Type 0
EncodeEnds reported what file reports stream input input' output output' faults faults' status =
    IsLookedFor reported what reports stream input input' output output' faults faults' status
    ⊎ (IsUnasked reported what file status × (input' ≡ input) × (output' ≡ output))
