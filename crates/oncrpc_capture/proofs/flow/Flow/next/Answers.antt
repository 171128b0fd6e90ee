use Rattle.std.proofs.Common.{refl}
use Rattle.std.proofs.lemmas.Result.{IfOk-weaker}
use Rattle.oncrpc_capture.proofs.Followed.{down_steps, up_steps}
use Rattle.oncrpc_capture.proofs.flow.Flow.next.Goals as goal

pub returns-then-up : goal.returns-then-up
returns-then-up c = IfOk-weaker _ _ _
    (λ step h. up_steps c.args.self.now _ refl refl c.args.up step _ c.if-up.true h) c.next.ensures.steps

pub returns-else-up : goal.returns-else-up
returns-else-up c = IfOk-weaker _ _ _
    (λ step h. down_steps c.args.self.now _ refl refl c.args.up step _ c.if-up.false h) c.next-else-up.ensures.steps
