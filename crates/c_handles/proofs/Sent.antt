-- What C holds behind a pointer says the same to every thread, where the value does.
use mathlib.Core.Bool.{Bool}
use mir.Raw.{raw}
use base.Fraction.{full_share}
use base.Shift.{Keyless}
use denote.RattleType.{RattleType}
use denote.Memory.{lone}
use denote.RawPtr.{Ptr, block_ptr, null_ptr}
use denote.Param.Send.{IsSend, part_keyless}
use Rattle.std.specs.Prelude.{Option, Some, None}
use Rattle.libc.specs.Heap.{chunk-Keyless}
use Rattle.c_handles.specs.Retained.{retained}

pub retained_keyless : (R : RattleType) → IsSend R → (live : Bool) (at : Ptr) (held : Option R.Denot)
    → Keyless (retained R live at held)
retained_keyless R s live at None = tt
retained_keyless R s live (block_ptr b o) (Some x) =
    (tt, (part_keyless R s full_share x b o, chunk-Keyless (raw (lone R.mir)) (block_ptr b o)))
retained_keyless R s live null_ptr (Some x) = (tt, (tt, chunk-Keyless (raw (lone R.mir)) null_ptr))
