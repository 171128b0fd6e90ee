-- Why texts of declarations are refused that were read.
use Rattle.std.specs.Prelude.{◌≡◌, ◌≢◌, ℕ, List, ⊤}
use Rattle.xdr_lang.specs.Declarations.{Declared}
use Rattle.xdr_lang.specs.declared.lang_fault.LangFault.{LangFault}
use Rattle.oncrpc_answers.specs.declared.failure.Failure.TheVariants as failure
use Rattle.oncrpc_answers.specs.declared.task.Dialect.{Dialect}
use Rattle.oncrpc_tasks.specs.declared.unusable.Unusable.{Unusable}
use Rattle.oncrpc_tasks.specs.declared.unusable.Unusable.TheVariants as unusable
use Rattle.oncrpc_tasks.specs.Sources.{IsDeclared, MeansIn}

-- the same, wherever a fault of it stands
abbrev pub IsSame : Unusable → Unusable → Type 0
IsSame (unusable.Declaration file fault) (unusable.Declaration file' fault') = ⊤
IsSame (unusable.Declaration file fault) v = ⊥
IsSame w v = v ≡ w

-- a fault of the text, or that memory was refused for it
abbrev pub RefusedFor : LangFault → Unusable → Type 0
RefusedFor e (unusable.Declaration file fault) = e.number ≢ 13
RefusedFor e (unusable.Failed f) = f ≡ failure.NoMemory
RefusedFor e _ = ⊥

-- the text means nothing, or memory was refused
abbrev pub MeansNone : Dialect → List ℕ → Unusable → Type 0
MeansNone dialect text (unusable.Declaration file fault) = (d : Declared) → MeansIn dialect text d → ⊥
MeansNone dialect text (unusable.Failed f) = f ≡ failure.NoMemory
MeansNone dialect text _ = ⊥

-- the texts have no meaning, or memory was refused
abbrev pub DeclareNone : Dialect → List (List ℕ) → Unusable → Type 0
DeclareNone dialect texts (unusable.Declaration file fault) = (d : Declared) → IsDeclared dialect texts d → ⊥
DeclareNone dialect texts (unusable.Failed f) = f ≡ failure.NoMemory
DeclareNone dialect texts _ = ⊥
