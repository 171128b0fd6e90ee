-- How a task ends: what its exit status says of what it read and printed, of a value that is asked for.
use Rattle.std.specs.Prelude.{◌≡◌, ◌⊎◌, ℕ, ◌≤◌, Bool, true, false, List, Option}
use Rattle.xdr_io.specs.Reported.{Counts, CountsAtMost, MovesAtMost}
use Rattle.xdr_io.specs.declared.input.TheConstants.{MOST_READS}
use Rattle.xdr_json.specs.declared.output.Layout.{Layout}
use Rattle.xdr_json.specs.declared.output.Layout.TheVariants.{Compact, Indented}
use Rattle.oncrpc_answers.specs.declared.task.Task.{Task}
use Rattle.oncrpc_answers.specs.declared.task.Task.TheVariants as task
use Rattle.oncrpc_answers.specs.declared.task.ValueTask.{ValueTask}
use Rattle.oncrpc_tasks.specs.Checked.{Answers, AnswersInPart}
use Rattle.oncrpc_tasks.specs.declared.question.Form.{Form}
use Rattle.oncrpc_tasks.specs.declared.question.Form.TheVariants as form
use Rattle.oncrpc_tasks.specs.Devices.{Reports, Stream}
use Rattle.oncrpc_tasks.specs.Input.{most_read}
use Rattle.oncrpc_tasks.specs.RecordsEnd.{RecordsEnd}
use Rattle.oncrpc_tasks.specs.Right.{Question}
use Rattle.oncrpc_tasks.specs.Sources.{AreReported}
use Rattle.oncrpc_tasks.specs.Stopping.{ReadsUnsettled, LastRead, IsUnread, IsPlain}
use Rattle.oncrpc_tasks.specs.Tasks.{Asks, AsksNothing}

-- Where a read failed, or one more than the most would be needed: what was read before settles no answer, of an input
-- that is read as it is. So no read is made, and none fails, after a refusal.
abbrev pub NeedsMore : Question → (hex : Bool) → (left left' : Option (List ℕ)) → Type 0
NeedsMore q hex left left' = IsPlain hex → ReadsUnsettled q left left'

-- what failed: a read, a write, or as many reads were made as there may be
abbrev pub DeviceFails : {I O : Type 0} → Question → (hex : Bool) → Reports I O → (input input' : I)
    → (output output' : O)
    → Type 0
DeviceFails q hex reports input input' output output' =
    (Counts 1 (reports.failures input) (reports.failures input')
    × NeedsMore q hex (reports.left input) (reports.left input'))
    ⊎ (Counts 1 (reports.lost output) (reports.lost output')
    ⊎ (Counts MOST_READS (reports.reads input) (reports.reads input')
    × NeedsMore q hex (reports.left input) (reports.left input')))

-- Where reading an input that is read as it is stops: nothing was read, or what came before the last read settles no
-- answer.
abbrev pub StopsReading : Question → (hex : Bool) → (left left' : Option (List ℕ)) → (reads reads' : Option ℕ) → Type 0
StopsReading q hex left left' reads reads' =
    IsPlain hex → IsUnread left left' reads reads' ⊎ LastRead q left left' reads reads'

-- What the status says where a value is asked for. 0 and 1: what is right was printed and nothing failed. 3: a device
-- failed, and nothing was printed or the beginning of what is right. 4: memory was refused, and nothing was printed.
pub record ValueEnds {I O F : Type 0} (q : Question) (hex : Bool) (reports : Reports I O) (stream : Stream F)
    (input input' : I) (output output' : O) (faults faults' : F) (status : ℕ) : Type 0 where
  pub known : status ≤ 4
  pub asked : status ≡ 2 → ⊥
  pub printed : status ≤ 1 → Answers q hex (reports.left input) (reports.taken output) (reports.taken output') stream
      faults faults' status
  pub unfailed : status ≤ 1 → Counts 0 (reports.failures input) (reports.failures input')
  pub unlost : status ≤ 1 → Counts 0 (reports.lost output) (reports.lost output')
  pub device : status ≡ 3 → DeviceFails q hex reports input input' output output'
  pub in_part : status ≡ 3 → (output' ≡ output)
      ⊎ AnswersInPart q hex (reports.left input) (reports.taken output) (reports.taken output')
  pub wanting : status ≡ 4 → output' ≡ output
  pub few_reads : CountsAtMost MOST_READS (reports.reads input) (reports.reads input')
  pub bounded : MovesAtMost (most_read hex q.limits.bytes) (reports.left input) (reports.left input')
  pub stops : StopsReading q hex (reports.left input) (reports.left input') (reports.reads input) (reports.reads input')

-- The value that words ask for, by texts of declarations that are reported, was looked for.
pub record IsLookedFor {I O F : Type 0} (reported : List ℕ → Option (List ℕ)) (what : ValueTask) (how : Form)
    (reports : Reports I O) (stream : Stream F) (input input' : I) (output output' : O) (faults faults' : F)
    (status : ℕ) : Type 0 where
  pub texts : List (List ℕ)
  pub are_reported : AreReported reported what.types.files.items texts
  pub question : Question
  pub asked : Asks texts what how question
  pub ends : ValueEnds question what.hex reports stream input input' output output' faults faults' status

-- why nothing was looked for: 2 where nothing is asked, 3 where the declarations were not read, 4 where memory was
-- refused
abbrev pub IsUnasked : (List ℕ → Option (List ℕ)) → ValueTask → (file : Type 0) → ℕ → Type 0
IsUnasked reported what file status =
    ((status ≡ 2) × AsksNothing reported what) ⊎ (((status ≡ 3) × file) ⊎ (status ≡ 4))

-- Words ask for a value: it was looked for; or not, and then nothing was read and nothing printed.
abbrev pub WordsEnd : {I O F : Type 0} → (List ℕ → Option (List ℕ)) → ValueTask → Form → (file : Type 0)
    → Reports I O
    → Stream F
    → (input input' : I)
    → (output output' : O)
    → (faults faults' : F)
    → ℕ
    → Type 0
WordsEnd reported what how file reports stream input input' output output' faults faults' status =
    IsLookedFor reported what how reports stream input input' output output' faults faults' status
    ⊎ (IsUnasked reported what file status × (input' ≡ input) × (output' ≡ output))

-- how JSON is laid out
abbrev pub layout_in : (indented : Bool) → Layout
layout_in true = Indented
layout_in false = Compact

-- What the status of a task says. `file` says that the declarations were not read.
abbrev pub TaskEnds : {I O F : Type 0} → (List ℕ → Option (List ℕ)) → Task → (file : Type 0) → Reports I O
    → Stream F
    → (input input' : I)
    → (output output' : O)
    → (faults faults' : F)
    → ℕ
    → Type 0
TaskEnds reported (task.Check what) file reports stream input input' output output' faults faults' status =
    WordsEnd reported what form.Outcome file reports stream input input' output output' faults faults' status
TaskEnds reported (task.Show what) file reports stream input input' output output' faults faults' status =
    WordsEnd reported what form.Lines file reports stream input input' output output' faults faults' status
TaskEnds reported (task.Json json) file reports stream input input' output output' faults faults' status =
    WordsEnd reported json.what (form.Json (layout_in json.indented)) file reports stream input input' output output'
    faults faults' status
TaskEnds reported (task.Records what) file reports stream input input' output output' faults faults' status =
    RecordsEnd what.limit what.hex reports input input' output output' faults faults' status
