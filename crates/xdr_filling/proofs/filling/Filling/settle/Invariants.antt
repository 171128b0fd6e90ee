use Rattle.std.proofs.Common.{◌≡◌, List, [], length}
use Rattle.xdr_types.specs.Kinds.{KindView}
use Rattle.xdr_filling.specs.Private.Makes.{Moves}
use Rattle.xdr_filling.proofs.filling.Filling.settle.Given as goal

abbrev pub invariant-loop-self : goal.invariant-loop-self
invariant-loop-self l =
    ((kinds : List KindView) → Moves l.initial.self l.self kinds [] []) × (l.self.schema ≡ l.initial.self.schema)

abbrev pub decreases-loop-self : goal.decreases-loop-self
decreases-loop-self l = length l.self.around.items
