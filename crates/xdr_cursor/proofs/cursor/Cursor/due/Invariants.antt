use Rattle.std.proofs.Common.{◌≡◌, ℕ, List, length}
use Rattle.xdr_types.specs.Layout.{Entry}
use Rattle.xdr_cursor.specs.Standing.{Stands}
use Rattle.xdr_cursor.specs.Private.Stepping.{IsSameValue}
use Rattle.xdr_cursor.proofs.cursor.Cursor.due.Given as goal

abbrev pub invariant-loop-next : goal.invariant-loop-next
invariant-loop-next l =
    ((bytes : List ℕ) (es : List Entry) → Stands l.initial.self l.schema.kinds bytes es
    → Stands l.self l.schema.kinds bytes es)
    × IsSameValue l.initial.self l.self × (l.self.steps ≡ l.initial.self.steps)

abbrev pub decreases-loop-next : goal.decreases-loop-next
decreases-loop-next l = length l.self.parents.items
