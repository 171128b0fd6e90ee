use Rattle.std.proofs.Common.{List, length}
use Rattle.xdr_types.specs.Kinds.{KindView}
use Rattle.xdr_stream.specs.Frames.{stack_of}
use Rattle.xdr_stream.specs.Private.Moves.{Follows}
use Rattle.xdr_stream.specs.Private.Sound.{AreAllSolid}
use Rattle.xdr_stream.specs.declared.machine.Awaits.TheVariants.{Next}
use Rattle.xdr_stream.proofs.machine.nodes.end_nodes.Given as goal

abbrev pub invariant-loop-parents : goal.invariant-loop-parents
invariant-loop-parents g l =
    ((kinds : List KindView) → Follows kinds (g.B.Build.reports l.initial.built) Next
    (stack_of l.initial.work l.initial.parents.items) (g.B.Build.reports l.built) Next
    (stack_of l.work l.parents.items))
    × ((kinds : List KindView) → AreAllSolid kinds (stack_of l.initial.work l.initial.parents.items)
    → AreAllSolid kinds (stack_of l.work l.parents.items))

abbrev pub decreases-loop-parents : goal.decreases-loop-parents
decreases-loop-parents g l = length l.parents.items
