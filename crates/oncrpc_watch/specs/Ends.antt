-- How printing the messages of a stream ends: what its exit status says.
use Rattle.std.specs.Prelude.{◌≡◌, ◌⊎◌, ℕ, ◌≤◌, List, Option}
use Rattle.xdr_io.specs.Reported.{Counts}
use Rattle.xdr_lang.specs.Declarations.{Declared}
use Rattle.oncrpc_tasks.specs.Devices.{Reports}
use Rattle.oncrpc_tasks.specs.Sources.{DeclaresNothing}
use Rattle.oncrpc_watch.specs.declared.task.MessagesTask.{MessagesTask}
use Rattle.oncrpc_watch.specs.MessagesEnd.{PrintsMessages}
use Rattle.oncrpc_watch.specs.Stopped.{DeviceFails, PrintsMessagesPart}

-- What the status says. 0 or 1: all messages were printed. 2: the texts have no meaning, and nothing was printed.
-- 3: a device failed, and what was printed begins what would be. 4: memory was refused and no write failed, and the
-- same was printed.
pub record MessagesEnd {I T O : Type 0} (known : List Declared) (reported : List ℕ → Option (List ℕ))
    (what : MessagesTask) (reports : Reports I O) (texts : Reports T O) (unopened unopened' : Option ℕ) (input : I)
    (output output' : O) (status : ℕ) : Type 0 where
  pub some_status : status ≤ 4
  pub printed : (status ≡ 0) ⊎ (status ≡ 1) → PrintsMessages known reported what (reports.left input)
      (reports.taken output) (reports.taken output') status
  pub refused : status ≡ 2 → DeclaresNothing reported what.types × (output' ≡ output)
  pub in_part : (status ≡ 3) ⊎ (status ≡ 4) → (output' ≡ output)
      ⊎ PrintsMessagesPart known reported what (reports.left input) (reports.taken output) (reports.taken output')
  pub device : status ≡ 3 → DeviceFails reported what reports texts unopened unopened' input output output'
  pub wanting : status ≡ 4 → Counts 0 (reports.lost output) (reports.lost output')
