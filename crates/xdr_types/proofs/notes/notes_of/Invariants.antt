use Rattle.std.proofs.Common.{map}
use Rattle.xdr_types.specs.KindViews.{kind_view}
use Rattle.xdr_types.specs.Private.Notes.{AreNotes}
use Rattle.xdr_types.proofs.notes.notes_of.Given as goal

abbrev pub invariant-loop-round : goal.invariant-loop-round
invariant-loop-round l = AreNotes (map kind_view l.kinds.items) l.notes.items
