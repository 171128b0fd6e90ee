-- How C sees the answers of a cursor.
use Rattle.std.specs.Prelude.{◌≡◌, ℕ, true}
use Rattle.xdr_cursor.specs.declared.cursor.Cursor.{Cursor}
use Rattle.c_cursors.specs.Held.{is_lost}
use Rattle.c_cursors.specs.declared.given.Given.{Given}
use Rattle.c_cursors.specs.declared.given.Given.TheVariants as given

-- a cursor is astray for ever
abbrev pub IsStuck : (c c' : Cursor) → Given → Type 0
IsStuck c c' a = (a ≡ given.Astray → is_lost c' ≡ true) × (is_lost c ≡ true → a ≡ given.Astray)

-- how C sees the answer
abbrev pub given_status : Given → ℕ
given_status given.Done = 0
given_status given.NoMemory = 6
given_status given.NoDeclarations = 7
given_status given.NoRoom = 8
given_status given.NoPart = 34
given_status given.NoCursor = 35
given_status given.Astray = 36

-- a status that is that of an answer of which this holds
abbrev pub ReportsGiven : (Given → Type 0) → (status : ℕ) → Type 0
ReportsGiven Is status = (a : Given) × Is a × (status ≡ given_status a)
