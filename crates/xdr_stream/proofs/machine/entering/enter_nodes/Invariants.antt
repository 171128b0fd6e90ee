use Rattle.std.proofs.Common.{◌≡◌, ◌<◌, ℕ, List}
use Rattle.xdr_types.specs.Kinds.{kind_at}
use Rattle.xdr_types.specs.KindViews.{kind_view}
use Rattle.xdr_stream.specs.Frames.{stack_of, left_of, Begins}
use Rattle.xdr_stream.specs.Private.Sound.{IsSound}
use Rattle.xdr_stream.specs.Sees.{Sees}
use Rattle.xdr_stream.specs.declared.machine.Awaits.TheVariants.{Next}
use Rattle.xdr_stream.proofs.machine.entering.enter_nodes.Given as goal

abbrev pub invariant-loop-left : goal.invariant-loop-left
invariant-loop-left g l =
    ((kind : ℕ) (q : List ℕ) → Sees l.schema.kinds kind l.limits (g.B.Build.reports l.initial.built) Next
    (stack_of l.initial.work l.initial.parents.items) q
    → Sees l.schema.kinds kind l.limits (g.B.Build.reports l.built) Next (stack_of l.work l.parents.items) q)
    × IsSound l.schema.kinds (stack_of l.work l.parents.items)
    × Begins (left_of l.work) l.id.place
    × (kind_view l.kind ≡ kind_at l.schema.kinds l.id.place) × (0 < l.left)

abbrev pub decreases-loop-left : goal.decreases-loop-left
decreases-loop-left g l = l.left
