use Rattle.std.proofs.Common.{ℕ, List}
use Rattle.xdr_stream.specs.Frames.{stack_of, left_of}
use Rattle.xdr_stream.specs.Private.Sound.{AreAllSolid, HasNext}
use Rattle.xdr_stream.specs.Sees.{Sees}
use Rattle.xdr_stream.proofs.Heights.{next_height}
use Rattle.xdr_stream.specs.declared.machine.Awaits.TheVariants.{Next}
use Rattle.xdr_stream.proofs.machine.nodes.begin.Given as goal

abbrev pub invariant-loop-id : goal.invariant-loop-id
invariant-loop-id g l =
    ((kind : ℕ) (q : List ℕ) → Sees l.schema.kinds kind l.limits (g.B.Build.reports l.initial.built) Next
    (stack_of l.initial.work l.initial.parents.items) q
    → Sees l.schema.kinds kind l.limits (g.B.Build.reports l.built) Next (stack_of l.work l.parents.items) q)
    × AreAllSolid l.schema.kinds (stack_of l.work l.parents.items) × HasNext (left_of l.work)

abbrev pub decreases-loop-id : goal.decreases-loop-id
decreases-loop-id g l = next_height l.schema.kinds (left_of l.work)
