use Rattle.std.proofs.Common.{arith, refl}
use Rattle.std.proofs.lemmas.Result.{on_ok_weaker}
use Rattle.oncrpc_capture.proofs.Followed.{keep_all, keep_at}
use Rattle.oncrpc_capture.proofs.flows.Flows.go_behind.Goals as goal

pub returns-in-Some : goal.returns-in-Some
returns-in-Some c = on_ok_weaker _
    (λ h. keep_at c.args.self.now _ c.args.place c.in-Some.flow.now c.go_behind.new.self
    (omega (arith, c.in-Some.ensures.variant.0 refl, c.args.self.now.flows.ok.0)) c.in-Some.ensures.value refl h)
    c.go_behind.ensures

pub returns-in-None : goal.returns-in-None
returns-in-None c = keep_all c.args.self.now _ refl
