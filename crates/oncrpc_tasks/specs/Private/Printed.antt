-- What printing a text has done.
use Rattle.std.specs.Prelude.{◌≡◌, ◌≢◌, ◌⊎◌, ℕ, ◌<◌, List, length, take, Option, Result, OnOk, IfErr, IsErrOf}
use Rattle.std.specs.Io.KnownBytes.{Appends}
use Rattle.xdr_io.specs.Reported.{Counts}
use Rattle.oncrpc_answers.specs.declared.failure.Failure.{Failure}
use Rattle.oncrpc_answers.specs.declared.failure.Failure.TheVariants as failure

-- The beginning of a text was written, and not all of it.
pub record IsCut (text : List ℕ) (taken taken' : Option (List ℕ)) : Type 0 where
  pub count : ℕ
  pub cut : count < length text
  pub written : Appends taken taken' (take count text)

-- The text was written, or a write failed after its beginning, or memory was refused before any write.
pub record Prints {O R : Type 0} (taken : O → Option (List ℕ)) (lost : O → Option ℕ) (output output' : O)
    (text : List ℕ) (result : Result R Failure) : Type 0 where
  pub written : OnOk result (Appends (taken output) (taken output') text)
  pub unlost : OnOk result (Counts 0 (lost output) (lost output'))
  pub write : IsErrOf result failure.Write → Counts 1 (lost output) (lost output')
  pub in_part : IsErrOf result failure.Write → IsCut text (taken output) (taken output')
  pub nothing : IfErr result (λ f. f ≢ failure.Write → output' ≡ output)
  pub only : IfErr result (λ f. (f ≡ failure.Write) ⊎ (f ≡ failure.NoMemory))
