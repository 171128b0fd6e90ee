-- What taking a record does.
use Rattle.std.specs.Prelude.{◌≡◌, ℕ, List, Option, Some, None}
use Rattle.c_records.specs.declared.answer.Answer.{Answer}
use Rattle.c_records.specs.declared.answer.Answer.TheVariants as answer
use Rattle.c_records.specs.Held.{Held}
use Rattle.c_records.specs.Buffers.{IsPlaced}

-- a record goes into the buffer and waits no longer, or waits until there is enough
abbrev pub IsGiven : (record_waits waits : Option (List ℕ)) → (old new : List ℕ) → Answer → Type 0
IsGiven None waits old new a = (a ≡ answer.NoRecord) × (waits ≡ None) × (new ≡ old)
IsGiven (Some r) waits old new (answer.Whole count) = IsPlaced r old new (answer.Whole count) × (waits ≡ None)
IsGiven (Some r) waits old new a = IsPlaced r old new a × (waits ≡ Some r)

-- The record that waits is given, and the reader goes on where it was.
pub record IsTaken (h left : Held) (old new : List ℕ) (a : Answer) : Type 0 where
  pub reader : left.reader ≡ h.reader
  pub given : IsGiven h.waits left.waits old new a

-- the same of a handle
abbrev pub IsTakenBy : (held left : Option Held) → (old new : List ℕ) → Answer → Type 0
IsTakenBy None left old new a = (a ≡ answer.NoReader) × (left ≡ None) × (new ≡ old)
IsTakenBy (Some h) left old new a = (l : Held) × (left ≡ Some l) × IsTaken h l old new a
