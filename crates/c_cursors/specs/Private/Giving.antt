-- The next part, as the code gives it.
use Rattle.std.specs.Prelude.{◌≡◌, ℕ, ◌≤◌, ◌<◌, List, length}
use Rattle.xdr_types.specs.Kinds.{KindView}
use Rattle.xdr_types.specs.Layout.{Entry}
use Rattle.xdr_cursor.specs.Coming.{Awaits}
use Rattle.xdr_cursor.specs.declared.cursor.Cursor.{Cursor}
use Rattle.c_cursors.specs.declared.given.Given.{Given}
use Rattle.c_cursors.specs.Given.{IsStuck}
use Rattle.c_cursors.specs.Giving.{Lends, HasRoom, IsNext, IsPut}

-- the buffer is empty, or has room for the name
abbrev pub HasRoomFor : (name buffer : List ℕ) → Type 0
HasRoomFor name buffer = 0 < length buffer → length name ≤ length buffer

-- the buffer is not empty, and the name has so many bytes, which are more
abbrev pub IsLacking : (name buffer : List ℕ) → (count : ℕ) → Type 0
IsLacking name buffer count = (count ≡ length name) × (0 < length buffer) × (length buffer < count)

-- The next part is given, where the buffer is empty or has room for its name.
pub record IsGivenWithRoom (kinds : List KindView) (input : List ℕ) (c c' : Cursor) (old new : Lends) (a : Given)
    : Type 0 where
  pub put : IsPut input old new a
  pub next : (es : List Entry) → Awaits c kinds input es → HasRoom old.buffer es → IsNext kinds input es c' old new a
  pub stuck : IsStuck c c' a
