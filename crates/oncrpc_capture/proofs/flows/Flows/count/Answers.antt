use Rattle.std.proofs.Common.{arith, refl}
use Rattle.oncrpc_capture.proofs.Followed.{keep_at}
use Rattle.oncrpc_capture.proofs.flows.Flows.count.Goals as goal

pub returns-in-Some : goal.returns-in-Some
returns-in-Some c =
    keep_at c.args.self.now _ c.args.place c.in-Some.flow.now c.count-held.new.self
    (omega (arith, c.in-Some.ensures.variant.0 refl, c.args.self.now.flows.ok.0)) c.in-Some.ensures.value refl
    c.count-held.ensures
