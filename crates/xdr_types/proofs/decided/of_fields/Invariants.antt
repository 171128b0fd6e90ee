use Rattle.std.proofs.Common.{◌-◌, List, length, map, drop}
use Rattle.xdr_types.specs.Kinds.{KindView}
use Rattle.xdr_types.specs.KindViews.{part_of_member}
use Rattle.xdr_types.specs.Private.Notes.{AreNotes}
use Rattle.xdr_types.specs.Private.Deciding.{AreDecided}
use Rattle.xdr_types.proofs.decided.of_fields.Given as goal

abbrev pub invariant-loop-done : goal.invariant-loop-done
invariant-loop-done l = (kinds : List KindView) → AreNotes kinds l.notes.items
    → AreDecided kinds (map part_of_member (drop (length l.fields.items - l.done) l.fields.items)) l.together
