use Rattle.std.proofs.Common.{◌≡◌, []}
use Rattle.xdr_filling.specs.Private.Makes.{Moves}
use Rattle.xdr_filling.proofs.filling.Filling.due.Given as goal

abbrev pub invariant-loop-left : goal.invariant-loop-left
invariant-loop-left l =
    Moves l.initial.self l.self l.initial.self.schema.now.kinds [] [] × (l.self.schema ≡ l.initial.self.schema)

abbrev pub decreases-loop-left : goal.decreases-loop-left
decreases-loop-left l = l.left
