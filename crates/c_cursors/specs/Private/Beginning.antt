-- The beginning of a cursor, as the code makes it.
use Rattle.std.specs.Prelude.{⊤, ◌≡◌, ◌≢◌, ◌<◌, ℕ, List, length, Option, Some}
use Rattle.xdr_stream.specs.declared.fault.DecodeFault.{DecodeFault}
use Rattle.xdr_stream.specs.declared.fault.Reason.TheVariants as reason
use Rattle.xdr_cursor.specs.declared.cursor.Cursor.{Cursor}
use Rattle.c_values.specs.declared.answer.Answer.{Answer}
use Rattle.c_values.specs.declared.answer.Answer.TheVariants as answer
use Rattle.c_cursors.specs.Held.{used_of}

-- why no value begins the input, or an allocation failure
abbrev pub IsUnbegun : DecodeFault → Answer → Type 0
IsUnbegun f (answer.Refused g) = (g ≡ f) × (f.why ≢ reason.NoMemory)
IsUnbegun f answer.NoMemory = ⊤
IsUnbegun f _ = ⊥

-- a value of so many bytes, which are all of the input or not
abbrev pub IsCounted : (used : ℕ) → (input : List ℕ) → Answer → Type 0
IsCounted used input (answer.Whole n) = (n ≡ used) × (n ≡ length input)
IsCounted used input (answer.Followed n) = (n ≡ used) × (n < length input)
IsCounted used input _ = ⊥

-- the cursor is held, and its value is all of the input or not; or memory was refused
abbrev pub IsKept : Cursor → (input : List ℕ) → (old new : Option Cursor) → Answer → Type 0
IsKept c input old new (answer.Whole n) = (n ≡ used_of c) × (n ≡ length input) × (new ≡ Some c)
IsKept c input old new (answer.Followed n) = (n ≡ used_of c) × (n < length input) × (new ≡ Some c)
IsKept c input old new answer.NoMemory = new ≡ old
IsKept c input old new _ = ⊥
