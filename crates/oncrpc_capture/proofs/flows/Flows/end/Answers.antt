use Rattle.std.proofs.Common.{arith, refl}
use Rattle.oncrpc_capture.proofs.Followed.{keep_all, keep_at}
use Rattle.oncrpc_capture.proofs.flows.Flows.end.Goals as goal

pub returns-in-Some : goal.returns-in-Some
returns-in-Some c =
    keep_at c.args.self.now _ c.args.place c.in-Some.flow.now c.end.new.self
    (omega (arith, c.in-Some.ensures.variant.0 refl, c.args.self.now.flows.ok.0))
    c.in-Some.ensures.value refl c.end.ensures

pub returns-in-None : goal.returns-in-None
returns-in-None c = keep_all c.args.self.now _ refl
