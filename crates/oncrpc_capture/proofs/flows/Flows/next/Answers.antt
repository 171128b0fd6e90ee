use Rattle.std.proofs.Common.{arith, refl}
use Rattle.std.proofs.lemmas.Result.{IfOk-weaker}
use Rattle.oncrpc_capture.proofs.Followed.{find_at, find_none}
use Rattle.oncrpc_capture.proofs.flows.Flows.next.Goals as goal

pub returns-in-Some : goal.returns-in-Some
returns-in-Some c =
    let old = c.in-Some.flow.now in
    let new = c.find.new.self in
    let r = c.find.new.buffer.items in
    let at = find_at c.args.self.now _ c.args.place old new
    (omega (arith, c.in-Some.ensures.variant.0 refl, c.args.self.now.flows.ok.0)) c.in-Some.ensures.value refl in
    IfOk-weaker _ _ _ (λ found h. at found r h) c.find.ensures

pub returns-in-None : goal.returns-in-None
returns-in-None c = find_none c.args.self.now _
