use Rattle.std.proofs.Common.{◌≡◌, ◌-◌, ◌^◌, List, take}
use Rattle.xdr_types.specs.Layout.{Entry}
use Rattle.xdr_cursor.specs.Coming.{Awaits, Passes}
use Rattle.xdr_cursor.specs.Private.Stepping.{IsSameValue}
use Rattle.xdr_cursor.proofs.cursor.Cursor.pass_deeper.Given as goal

abbrev pub invariant-loop-next : goal.invariant-loop-next
invariant-loop-next l =
    IsSameValue l.fn.self l.self
    × ((es : List Entry) → Awaits l.fn.self l.schema.kinds l.input es
    → Passes l.self l.schema.kinds l.input l.depth es)
    × (l.bytes ≡ take l.fn.self.used l.input)

-- each part is a step
abbrev pub decreases-loop-next : goal.decreases-loop-next
decreases-loop-next l = 2 ^ 64 - l.self.steps
