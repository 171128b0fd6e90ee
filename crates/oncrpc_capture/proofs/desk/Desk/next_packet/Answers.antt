use Rattle.oncrpc_capture.proofs.Fed.{next_is}
use Rattle.oncrpc_capture.proofs.Printed.{on_ok}
use Rattle.oncrpc_capture.proofs.desk.Desk.next_packet.Goals as goal

pub returns-in-Some-clause-prints : goal.returns-in-Some-clause-prints
returns-in-Some-clause-prints g c = on_ok _
    (λ h. next_is c.args.reader.now c.args.self.now.ports.now c.args.self.now.frame _ c.saturating_add-self.result
    _ _ c.args.self.now.printing _ _ _ _ c.in-Some.ensures.packet c.packet-in-Some.ensures.same.1
    c.saturating_add-self.ensures h)
    c.packet-in-Some.ensures.goes
