-- What asking a cursor for the next part does (RFC 4506 section 4).
use Rattle.std.specs.Prelude.{◌≡◌, ℕ, ◌+◌, ◌≤◌, ◌<◌, List, [], ◌∷◌, length, Option, Some, None, ⊤}
use Rattle.xdr_types.specs.Kinds.{KindView}
use Rattle.xdr_types.specs.Layout.{Entry}
use Rattle.xdr_lang.specs.Declarations.{Declared}
use Rattle.xdr_cursor.specs.Coming.{Awaits}
use Rattle.xdr_cursor.specs.declared.cursor.Cursor.{Cursor}
use Rattle.c_answers.specs.Buffers.{AreAtFront}
use Rattle.c_values.specs.Parts.{IsPart}
use Rattle.c_values.specs.declared.part.ValuePart.{ValuePart}
use Rattle.c_cursors.specs.declared.given.Given.{Given}
use Rattle.c_cursors.specs.declared.given.Given.TheVariants as given
use Rattle.c_cursors.specs.Given.{IsStuck}

-- what a caller lends: where a part is put, and a buffer for its name
pub record Lends : Type 0 where
  pub part : ValuePart
  pub buffer : List ℕ

-- the buffer is empty, or has room for the name of the first of these parts
abbrev pub HasRoom : (buffer : List ℕ) → List Entry → Type 0
HasRoom buffer [] = ⊤
HasRoom buffer (e ∷ es) = 0 < length buffer → length e.name ≤ length buffer

-- the name of the first of these parts has so many bytes
abbrev pub HasNameOf : List Entry → (count : ℕ) → Type 0
HasNameOf [] count = ⊥
HasNameOf (e ∷ es) count = count ≡ length e.name

-- C's part is this part of a value, with the count of bytes of its name. That is put at the front of the buffer, unless
-- this is empty.
pub record IsPutPart (kinds : List KindView) (input : List ℕ) (old new : Lends) (e : Entry) : Type 0 where
  pub part : IsPart kinds input e.name [] e new.part
  pub name : 0 < length old.buffer → AreAtFront e.name old.buffer new.buffer

-- of the parts that were to come the first is given and the others are still to come; or all are, and none is given
abbrev pub IsNext : List KindView → (input : List ℕ) → List Entry → Cursor → (old new : Lends) → Given → Type 0
IsNext kinds input es c old new given.Done =
    (e : Entry) × (rest : List Entry) × (es ≡ e ∷ rest) × IsPutPart kinds input old new e × Awaits c kinds input rest
IsNext kinds input es c old new given.NoPart = (es ≡ []) × Awaits c kinds input []
IsNext kinds input es c old new given.NoRoom = HasNameOf es new.part.name_count × Awaits c kinds input es
IsNext kinds input es c old new given.NoMemory = Awaits c kinds input es
IsNext kinds input es c old new _ = ⊥

-- where the buffer is too small that is told, and nothing else is put
pub record IsTooSmall (old new : Lends) : Type 0 where
  pub part : new.part ≡ record (old.part) { name_count = new.part.name_count }
  pub buffer : new.buffer ≡ old.buffer
  pub some : 0 < length old.buffer
  pub less : length old.buffer < new.part.name_count

-- what stands where the part and its name are put, whatever the cursor was started with: a part lies in the input, and
-- without one nothing is put
abbrev pub IsPut : (input : List ℕ) → (old new : Lends) → Given → Type 0
IsPut input old new given.Done = new.part.at + new.part.count ≤ length input
IsPut input old new given.NoRoom = IsTooSmall old new
IsPut input old new given.NoDeclarations = ⊥
IsPut input old new given.NoCursor = ⊥
IsPut input old new _ = new ≡ old

-- The answer is right of the parts that were to come, wherever the cursor stands. This stands where the part and its
-- name are put, and a cursor that has lost its place stays astray.
pub record IsGiven (kinds : List KindView) (input : List ℕ) (c c' : Cursor) (old new : Lends) (a : Given) : Type 0 where
  pub put : IsPut input old new a
  pub next : (es : List Entry) → Awaits c kinds input es → IsNext kinds input es c' old new a
  pub stuck : IsStuck c c' a

-- the same of the cursor that is held
abbrev pub IsGivenByHandle : List KindView → (input : List ℕ) → (held left : Option Cursor) → (old new : Lends) → Given
    → Type 0
IsGivenByHandle kinds input None left old new a = (a ≡ given.NoCursor) × (left ≡ None) × (new ≡ old)
IsGivenByHandle kinds input (Some c) left old new a =
    (c' : Cursor) × (left ≡ Some c') × IsGiven kinds input c c' old new a

-- and by the declarations that are held
abbrev pub IsGivenByHeld : Option Declared → (input : List ℕ) → (held left : Option Cursor) → (old new : Lends) → Given
    → Type 0
IsGivenByHeld None input held left old new a = (a ≡ given.NoDeclarations) × (left ≡ held) × (new ≡ old)
IsGivenByHeld (Some d) input held left old new a = IsGivenByHandle d.schema.kinds input held left old new a
