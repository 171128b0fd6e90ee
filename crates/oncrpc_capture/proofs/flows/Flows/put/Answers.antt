use Rattle.std.proofs.Common.{arith, refl}
use Rattle.oncrpc_capture.proofs.Followed.{put_at, put_behind}
use Rattle.oncrpc_capture.proofs.flows.Flows.put.Goals as goal

pub returns-in-Some : goal.returns-in-Some
returns-in-Some c =
    put_at c.args.self.now _ c.args.place c.in-Some.old.now c.args.flow
    (omega (arith, c.in-Some.ensures.variant.0 refl, c.args.self.now.flows.ok.0))
    c.in-Some.ensures.value refl c.requires

pub returns-in_ok-push-in-None : goal.returns-in_ok-push-in-None
returns-in_ok-push-in-None c =
    put_behind c.args.self.now _ c.args.flow c.in_ok-push-in-None.ensures.items c.requires
