-- What the words of a task ask for, and what doing it has done.
use Rattle.std.specs.Prelude.{◌≡◌, ◌⊎◌, ℕ, ◌<◌, List, [], length, Option, String, string_bytes}
use Rattle.std.specs.declared.alloc.Global.{Global}
use Rattle.xdr_types.specs.Within.{AreBounds}
use Rattle.xdr_lang.specs.Declarations.{Declared}
use Rattle.oncrpc_answers.specs.declared.task.Task.{Task}
use Rattle.oncrpc_answers.specs.declared.task.Task.TheVariants as task
use Rattle.oncrpc_answers.specs.declared.task.ValueTask.{ValueTask}
use Rattle.oncrpc_answers.specs.declared.failure.Failure.TheVariants as failure
use Rattle.oncrpc_tasks.specs.declared.question.Form.{Form}
use Rattle.oncrpc_tasks.specs.declared.target.Target.{Target}
use Rattle.oncrpc_tasks.specs.declared.unusable.Unusable.{Unusable}
use Rattle.oncrpc_tasks.specs.declared.unusable.Unusable.TheVariants as unusable
use Rattle.oncrpc_kinds.specs.Naming.{Names}
use Rattle.oncrpc_tasks.specs.Right.{Question}
use Rattle.oncrpc_tasks.specs.Sources.{AreReported, IsDeclared}

-- With these texts of declarations the name has a kind, the question is of that kind, and the limits are in their
-- ranges.
pub record Asks (texts : List (List ℕ)) (what : ValueTask) (form : Form) (q : Question) : Type 0 where
  pub declared : Declared
  pub source : IsDeclared what.types.dialect texts declared
  pub kinds : q.kinds ≡ declared.schema.kinds
  pub named : Names (string_bytes what.name) declared q.place
  pub known : q.place < length q.kinds
  pub in_range : AreBounds what.depth what.bytes
  pub limits : q.limits ≡ record { depth = what.depth; bytes = what.bytes }
  pub lines : q.form ≡ form

-- No question is asked, by texts that are reported.
pub record AsksNothing (reported : List ℕ → Option (List ℕ)) (what : ValueTask) : Type 0 where
  pub texts : List (List ℕ)
  pub are_reported : AreReported reported what.types.files.items texts
  pub none : (form : Form) (q : Question) → Asks texts what form q → ⊥

-- The question is asked, by texts that are reported.
pub record AsksFor (reported : List ℕ → Option (List ℕ)) (what : ValueTask) (target : Target) : Type 0 where
  pub texts : List (List ℕ)
  pub are_reported : AreReported reported what.types.files.items texts
  pub asked : (form : Form) → Asks texts what form
      (record { kinds = target.schema.kinds; place = target.kind.place; limits = target.limits; form = form })

-- why there is no question: what the words say, a file that could not be read, or an allocation failure
abbrev pub HasNoQuestion : (List ℕ → Option (List ℕ)) → ValueTask → Unusable → Type 0
HasNoQuestion reported what (unusable.Failed f) = (f ≡ failure.Read) ⊎ (f ≡ failure.NoMemory)
HasNoQuestion reported what _ = AsksNothing reported what

-- the files that the words name
abbrev pub files_of : Task → List (String Global)
files_of (task.Check what) = what.types.files.items
files_of (task.Show what) = what.types.files.items
files_of (task.Json json) = json.what.types.files.items
files_of (task.Records what) = []
