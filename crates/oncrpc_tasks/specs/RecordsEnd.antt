-- How writing a stream of records in its normal form ends (RFC 5531 section 11).
use Rattle.std.specs.Prelude.{◌≡◌, ◌⊎◌, ℕ, ◌≤◌, ◌<◌, ◌^◌, Bool, true, false, List, ◌++◌, ◌∷◌, [], length}
use Rattle.std.specs.Prelude.{take, Option, None, Some, Ok, ⊤}
use Rattle.std.specs.Io.KnownBytes.{Appends}
use Rattle.hex.specs.Hex.{decode_of, encode_lower}
use Rattle.xdr_io.specs.Reported.{Counts, CountsAtMost, MovesAtMost}
use Rattle.xdr_io.specs.declared.input.TheConstants.{MOST_READS}
use Rattle.oncrpc_answers.specs.declared.failure.Failure.{Failure}
use Rattle.oncrpc_answers.specs.declared.failure.Failure.TheVariants as failure
use Rattle.oncrpc_tasks.specs.declared.records.Marking.{Marking}
use Rattle.oncrpc_tasks.specs.Devices.{Reports, Fails}
use Rattle.oncrpc_tasks.specs.Hexadecimal.{digits}
use Rattle.oncrpc_tasks.specs.declared.hexadecimal.TheConstants.{MOST_TEXT}
use Rattle.oncrpc_tasks.specs.Input.{most_read}
use Rattle.oncrpc_tasks.specs.Records.{Done, Marks, RefusedBytes, StopsFor}

-- The beginning of the normal form, in hexadecimal, of the bytes that a text spells was written, and not all of it.
pub record FormInPart (limit : ℕ) (text : List ℕ) (taken taken' : Option (List ℕ)) : Type 0 where
  pub marking : Marking
  pub bytes : List ℕ
  pub rest : Option (List ℕ)
  pub form : List ℕ
  pub count : ℕ
  pub short : length text ≤ MOST_TEXT
  pub spelled : decode_of (digits text) ≡ Ok bytes
  pub marks : Marks limit (Some bytes) rest (Some []) (Some form) marking
  pub cut : count < length (encode_lower form ++ 10 ∷ [])
  pub written : Appends taken taken' (take count (encode_lower form ++ 10 ∷ []))

-- the same where the text is reported
abbrev pub IsFormInPart : ℕ → (left taken taken' : Option (List ℕ)) → Type 0
IsFormInPart limit None taken taken' = ⊤
IsFormInPart limit (Some text) taken taken' = FormInPart limit text taken taken'

-- What was written where a device failed. Of records that are read as they are: what came whole before the failure,
-- which is reported. Of hexadecimal: nothing, or the beginning of what is right.
abbrev pub WritesInPart : ℕ → (hex : Bool) → (unwritten : Type 0) → (fails : Failure → Type 0)
    → (left left' taken taken' : Option (List ℕ))
    → Type 0
WritesInPart limit true unwritten fails left left' taken taken' = unwritten ⊎ IsFormInPart limit left taken taken'
WritesInPart limit false unwritten fails left left' taken taken' =
    (f : Failure) × fails f × StopsFor f limit left left' taken taken'

-- What was written where memory was refused: what came whole before, or all that comes before the line of a refusal.
abbrev pub WritesAtWant : ℕ → (hex : Bool) → (unwritten : Type 0) → (left left' taken taken' : Option (List ℕ))
    → Type 0
WritesAtWant limit true unwritten left left' taken taken' =
    unwritten ⊎ RefusedBytes limit true left left' taken taken'
WritesAtWant limit false unwritten left left' taken taken' =
    StopsFor failure.NoMemory limit left left' taken taken' ⊎ RefusedBytes limit false left left' taken taken'

-- A text of hexadecimal is read until more than the limit on it is there, by pages of 4096 bytes. A stream of records
-- that is read as it is has any length.
abbrev pub ReadsAtMost : (hex : Bool) → (left left' : Option (List ℕ)) → Type 0
ReadsAtMost true left left' = MovesAtMost (most_read true 0) left left'
ReadsAtMost false left left' = ⊤

-- What the status says. 0: all records were written. 1: those before what is refused were. 2: the limit is out of its
-- range, and nothing was read or written. 3: a device failed. 4: memory was refused.
pub record RecordsEnd {I O F : Type 0} (limit : ℕ) (hex : Bool) (reports : Reports I O) (input input' : I)
    (output output' : O) (faults faults' : F) (status : ℕ) : Type 0 where
  pub known : status ≤ 4
  pub done : status ≡ 0 → Done limit hex (reports.left input) (reports.left input') (reports.taken output)
      (reports.taken output')
  pub refused : status ≡ 1 → RefusedBytes limit hex (reports.left input) (reports.left input') (reports.taken output)
      (reports.taken output')
  pub unfailed : status ≤ 1 → Counts 0 (reports.failures input) (reports.failures input')
  pub unlost : status ≤ 1 → Counts 0 (reports.lost output) (reports.lost output')
  pub silent : status ≡ 0 → faults' ≡ faults
  pub unasked : status ≡ 2 → (2 ^ 31 ≤ limit) × (input' ≡ input) × (output' ≡ output)
  pub device : status ≡ 3 → Counts 1 (reports.failures input) (reports.failures input')
      ⊎ (Counts 1 (reports.lost output) (reports.lost output')
      ⊎ Counts MOST_READS (reports.reads input) (reports.reads input'))
  pub in_part : status ≡ 3 → WritesInPart limit hex (output' ≡ output) (Fails reports input input' output output')
      (reports.left input) (reports.left input') (reports.taken output) (reports.taken output')
  pub wanting : status ≡ 4 → WritesAtWant limit hex (output' ≡ output) (reports.left input) (reports.left input')
      (reports.taken output) (reports.taken output')
  pub few_reads : CountsAtMost MOST_READS (reports.reads input) (reports.reads input')
  pub bounded : ReadsAtMost hex (reports.left input) (reports.left input')
