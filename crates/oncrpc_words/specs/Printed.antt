-- How words that ask for no task end, and what goes to the output.
use Rattle.std.specs.Prelude.{◌≡◌, ℕ, ◌<◌, ◌≤◌, ◌⊎◌, List, Option, length, take}
use Rattle.std.specs.Io.KnownBytes.{Appends}
use Rattle.xdr_io.specs.Reported.{Counts}

-- The status is 0 to 4. Help ends with 0, or 3 where it cannot be written; refused words end with 2, and an allocation
-- failure with 4.
pub record EndsWords (asked status : ℕ) : Type 0 where
  pub some_status : status ≤ 4
  pub helped : asked ≡ 0 → (status ≡ 0) ⊎ (status ≡ 3)
  pub refused : asked ≡ 2 → status ≡ 2
  pub wanting : asked ≡ 4 → status ≡ 4

-- At 0 the whole text went to the output; at 3 a write failed, and the beginning of the text went out before it.
pub record PrintsWords (text : List ℕ) (taken taken' : Option (List ℕ)) (failures failures' : Option ℕ) (status : ℕ)
    : Type 0 where
  pub printed : status ≡ 0 → Appends taken taken' text
  pub device : status ≡ 3 → Counts 1 failures failures'
  pub in_part : status ≡ 3 → (count : ℕ) × (count < length text) × Appends taken taken' (take count text)
