use Rattle.std.proofs.Common.{refl}
use Rattle.std.proofs.lemmas.Result.{on_ok_weaker}
use Rattle.oncrpc_capture.proofs.Followed.{down_takes, up_takes}
use Rattle.oncrpc_capture.proofs.flow.Flow.take.Goals as goal

pub returns-then-up : goal.returns-then-up
returns-then-up c = on_ok_weaker _
    (λ h. up_takes c.args.self.now _ refl refl c.args.pair c.args.up c.args.sequence c.args.bytes.now c.if-up.true
    (c.is_between.ensures c.if-not-is_between.false) h) c.take.ensures.comes

pub returns-else-up : goal.returns-else-up
returns-else-up c = on_ok_weaker _
    (λ h. down_takes c.args.self.now _ refl refl c.args.pair c.args.up c.args.sequence c.args.bytes.now c.if-up.false
    (c.is_between.ensures c.if-not-is_between.false) h) c.take-else-up.ensures.comes
