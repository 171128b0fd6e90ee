-- What is said of words that ask nothing: texts of declarations, a name or limits that are refused.
use Rattle.std.specs.Prelude.{◌≡◌, ℕ, ◌<◌, ◌==◌, List, [], ◌++◌, length, nat_lt, if◌then◌else◌, Option, None, Some, ⊤}
use Rattle.std.specs.Prelude.{String, string_bytes, slice_get, codes, decimal}
use Rattle.std.specs.declared.alloc.Global.{Global}
use Rattle.xdr_types.specs.Within.{AreBounds}
use Rattle.xdr_lang.specs.Declarations.{Declared}
use Rattle.xdr_lang.specs.declared.lang_fault.LangFault.{LangFault}
use Rattle.oncrpc_answers.specs.declared.task.ValueTask.{ValueTask}
use Rattle.oncrpc_kinds.specs.Naming.{Names}
use Rattle.oncrpc_tasks.specs.Sources.{Declares, DeclaresNothing}
use Rattle.oncrpc_tasks.specs.declared.unusable.Unusable.{Unusable}
use Rattle.oncrpc_tasks.specs.declared.unusable.Unusable.TheVariants as unusable

-- ---- lines

-- the number of a fault of a text; one of the schema has its own number behind it (own)
abbrev pub fault_text : (number inner : ℕ) → List ℕ
fault_text number inner =
    if inner == 0 then codes "declaration refused: " ++ decimal number ++ codes " at "
    else codes "declaration refused: " ++ decimal number ++ codes " (" ++ decimal inner ++ codes ") at "

-- the name of a file and a colon; nothing where there is none (own)
abbrev pub named_text : Option (String Global) → List ℕ
named_text (Some name) = string_bytes name ++ codes ":"
named_text None = []

-- of several files the one where a fault stands, numbered from 0 (own)
abbrev pub file_text : (files : List (String Global)) → (file : ℕ) → List ℕ
file_text files file = if nat_lt 1 (length files) then named_text (slice_get files file) else []

-- the line of a fault of texts: its number, its file, its line and its column (own)
abbrev pub declaration_line : (files : List (String Global)) → (file : ℕ) → LangFault → List ℕ
declaration_line files file fault =
    fault_text fault.number fault.inner ++ file_text files file
    ++ (decimal fault.line ++ codes ":" ++ decimal fault.column ++ codes "\n")

-- the line of what is refused, in the words of a task with this name and these files; none of a failure (own)
abbrev pub refusal_line : (name : List ℕ) → (files : List (String Global)) → Unusable → List ℕ
refusal_line name files (unusable.Declaration file fault) = declaration_line files file fault
refusal_line name files unusable.Name = codes "no such name: " ++ name ++ codes "\n"
refusal_line name files unusable.Limits = codes "limits refused\n"
refusal_line name files (unusable.Failed f) = []

-- ---- reasons

-- The texts declare something, in which the name names no kind.
pub record NamesNothing (reported : List ℕ → Option (List ℕ)) (what : ValueTask) : Type 0 where
  pub declared : Declared
  pub declares : Declares reported what.types declared
  pub none : (place : ℕ) → Names (string_bytes what.name) declared place → place < length declared.schema.kinds → ⊥

-- The texts declare something, in which the name names a kind, and a limit is out of its range.
pub record HasNoLimits (reported : List ℕ → Option (List ℕ)) (what : ValueTask) : Type 0 where
  pub declared : Declared
  pub declares : Declares reported what.types declared
  pub place : ℕ
  pub named : Names (string_bytes what.name) declared place
  pub known : place < length declared.schema.kinds
  pub outside : AreBounds what.depth what.bytes → ⊥

-- The reason is the first that holds: the texts have no meaning, the name names nothing, a limit is out of its range.
abbrev pub IsReason : (List ℕ → Option (List ℕ)) → ValueTask → Unusable → Type 0
IsReason reported what (unusable.Declaration file fault) = DeclaresNothing reported what.types
IsReason reported what unusable.Name = NamesNothing reported what
IsReason reported what unusable.Limits = HasNoLimits reported what
IsReason reported what (unusable.Failed f) = ⊤
