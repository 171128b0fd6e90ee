-- Texts of declarations as they were read of their files.
use Rattle.std.specs.Prelude.{◌≡◌, ◌⊎◌, ℕ, List, [], ◌∷◌, map, Option, Result, IfOk, IfErr, OnOk, IsErrOf, ⊤}
use Rattle.std.specs.Prelude.{String, string_bytes, Vec}
use Rattle.std.specs.declared.alloc.Global.{Global}
use Rattle.xdr_io.specs.Reported.{Counts}
use Rattle.oncrpc_answers.specs.declared.failure.Failure.TheVariants as failure
use Rattle.oncrpc_tasks.specs.declared.unusable.Unusable.{Unusable}
use Rattle.oncrpc_tasks.specs.declared.unusable.Unusable.TheVariants as unusable
use Rattle.oncrpc_tasks.specs.Input.{BeginsInput}
use Rattle.oncrpc_tasks.specs.Sources.{IsReported, FailsToRead}

-- the bytes of texts
abbrev pub texts_bytes : List (Vec ℕ Global) → List (List ℕ)
texts_bytes ts = map (λ t. t.items) ts

-- The bytes begin the text that is reported, where one is, and are all of it where they are no more than a text may
-- have.
abbrev pub IsRead : Option (List ℕ) → List ℕ → Type 0
IsRead reported bytes = (text : List ℕ) × IsReported reported text × BeginsInput 262144 text bytes

-- these bytes were read of the files, in their order
abbrev pub AreRead : (List ℕ → Option (List ℕ)) → List (String Global) → List (List ℕ) → Type 0
AreRead reported [] [] = ⊤
AreRead reported (f ∷ fs) (b ∷ bs) = IsRead (reported (string_bytes f)) b × AreRead reported fs bs
AreRead reported [] (b ∷ bs) = ⊥
AreRead reported (f ∷ fs) [] = ⊥

-- a read failed, or memory was refused
abbrev pub IsFailed : Unusable → Type 0
IsFailed why = (why ≡ unusable.Failed failure.Read) ⊎ (why ≡ unusable.Failed failure.NoMemory)

-- Reading the text of a file has opened it, and gives its bytes; or it could not be opened, or a read of it failed.
pub record ReadsFile {T : Type 0} (left : T → Option (List ℕ)) (text_failures : T → Option ℕ)
    (reported : Option (List ℕ)) (failures failures' : Option ℕ) (result : Result (Vec ℕ Global) Unusable)
    : Type 0 where
  pub read : IfOk result (λ text. IsRead reported text.items)
  pub opened : OnOk result (Counts 0 failures failures')
  pub failed : IsErrOf result (unusable.Failed failure.Read)
      → Counts 1 failures failures' ⊎ FailsToRead left text_failures reported
  pub only : IfErr result IsFailed
