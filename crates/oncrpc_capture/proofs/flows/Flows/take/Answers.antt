use Rattle.std.proofs.Common.{arith, refl}
use Rattle.std.proofs.lemmas.Result.{on_ok_weaker}
use Rattle.oncrpc_capture.proofs.Followed.{take_at, take_none}
use Rattle.oncrpc_capture.proofs.flows.Flows.take.Goals as goal

pub returns-in-Some : goal.returns-in-Some
returns-in-Some c = on_ok_weaker _
    (λ h. take_at c.args.self.now _ c.args.place c.in-Some.flow.now c.take.new.self
    (omega (arith, c.in-Some.ensures.variant.0 refl, c.args.self.now.flows.ok.0))
    c.in-Some.ensures.value refl c.args.pair c.args.up c.args.sequence c.args.bytes.now h) c.take.ensures

pub returns-in-None : goal.returns-in-None
returns-in-None c = take_none c.args.self.now c.args.pair c.args.up c.args.sequence c.args.bytes.now
