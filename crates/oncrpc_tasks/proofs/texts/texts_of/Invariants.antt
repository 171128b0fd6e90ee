use Rattle.std.proofs.Common.{length}
use Rattle.oncrpc_tasks.specs.Private.Gathered.{texts_bytes}
use Rattle.oncrpc_tasks.proofs.Gathering.{Gathering}
use Rattle.oncrpc_tasks.proofs.texts.texts_of.Given as goal

abbrev pub invariant-loop-left : goal.invariant-loop-left
invariant-loop-left g l = Gathering {T = g.row.P-Text.Denot} g.P.Text.Source.left g.P.Text.Source.failures
    (g.P.Opener.reported l.fn.opener) (g.P.Opener.reported l.opener) (g.P.Opener.failures l.fn.opener)
    (g.P.Opener.failures l.opener) l.files l.left (texts_bytes l.texts.items)

abbrev pub decreases-loop-left : goal.decreases-loop-left
decreases-loop-left g l = length l.left
