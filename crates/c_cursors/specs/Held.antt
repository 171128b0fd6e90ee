-- The cursor that a handle holds.
use Rattle.std.specs.Prelude.{ℕ, Bool}
use Rattle.xdr_cursor.specs.declared.cursor.Cursor.{Cursor}
use Rattle.c_cursors.specs.declared.state.State.{State}

abbrev pub cursor_of : State → Cursor
cursor_of s = s.cursor

-- how many bytes the value has over whose parts it goes
abbrev pub used_of : Cursor → ℕ
used_of c = c.used

-- whether it has lost its place
abbrev pub is_lost : Cursor → Bool
is_lost c = c.lost
