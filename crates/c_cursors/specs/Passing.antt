-- What passing over parts does (RFC 4506 section 4).
use Rattle.std.specs.Prelude.{◌≡◌, ℕ, List, Option, Some, None, ⊤}
use Rattle.xdr_types.specs.Kinds.{KindView}
use Rattle.xdr_types.specs.Layout.{Entry}
use Rattle.xdr_lang.specs.Declarations.{Declared}
use Rattle.xdr_cursor.specs.Coming.{Awaits, Passes, Skips}
use Rattle.xdr_cursor.specs.declared.cursor.Cursor.{Cursor}
use Rattle.c_cursors.specs.declared.given.Given.{Given}
use Rattle.c_cursors.specs.declared.given.Given.TheVariants as given
use Rattle.c_cursors.specs.Given.{IsStuck}

-- the parts that are deeper are passed over, up to the first that is not; some of them, where memory was refused
abbrev pub ArePassed : List KindView → (input : List ℕ) → (depth : ℕ) → List Entry → Cursor → Given → Type 0
ArePassed kinds input depth es c given.Done = Skips c kinds input depth es
ArePassed kinds input depth es c given.NoMemory = Passes c kinds input depth es
ArePassed kinds input depth es c _ = ⊥

-- an answer to who passes over parts
abbrev pub IsOfPassing : Given → Type 0
IsOfPassing given.Done = ⊤
IsOfPassing given.NoMemory = ⊤
IsOfPassing given.Astray = ⊤
IsOfPassing _ = ⊥

-- The answer is right of the parts that were to come, wherever the cursor stands. One that has lost its place stays
-- astray.
pub record IsPassed (kinds : List KindView) (input : List ℕ) (depth : ℕ) (c c' : Cursor) (a : Given) : Type 0 where
  pub known : IsOfPassing a
  pub passed : (es : List Entry) → Awaits c kinds input es → ArePassed kinds input depth es c' a
  pub stuck : IsStuck c c' a

-- the same of the cursor that is held
abbrev pub IsPassedByHandle : List KindView → (input : List ℕ) → (depth : ℕ) → (held left : Option Cursor) → Given
    → Type 0
IsPassedByHandle kinds input depth None left a = (a ≡ given.NoCursor) × (left ≡ None)
IsPassedByHandle kinds input depth (Some c) left a =
    (c' : Cursor) × (left ≡ Some c') × IsPassed kinds input depth c c' a

-- and by the declarations that are held
abbrev pub IsPassedByHeld : Option Declared → (input : List ℕ) → (depth : ℕ) → (held left : Option Cursor) → Given
    → Type 0
IsPassedByHeld None input depth held left a = (a ≡ given.NoDeclarations) × (left ≡ held)
IsPassedByHeld (Some d) input depth held left a = IsPassedByHandle d.schema.kinds input depth held left a
