use Rattle.std.proofs.Common.{map}
use Rattle.xdr_types.specs.KindViews.{kind_view}
use Rattle.xdr_types.specs.Private.Notes.{AreNotes}
use Rattle.xdr_types.proofs.notes.note_kinds.Given as goal

abbrev pub invariant-loop-done : goal.invariant-loop-done
invariant-loop-done l = AreNotes (map kind_view l.kinds.items) l.notes.items
