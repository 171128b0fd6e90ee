-- What C holds behind a pointer.
use Rattle.std.specs.Prelude.{Bool, true, false, Option, Some, None}
use base.Fml.{Fml, feq, fsep}
use denote.RattleType.{RattleType}
use denote.RawPtr.{Ptr}
use Rattle.libc.specs.Heap.{chunk}
use Rattle.std.specs.Box.Ownership.{box_owns}

-- the block at the pointer with the value in it, and the right to free it; nothing where there is none
abbrev pub retained : (R : RattleType) → Bool → Ptr → Option R.Denot → Fml
retained R live at (Some value) = fsep (feq Bool live true) (box_owns chunk R at value)
retained R live at None = feq Bool live false
