use Rattle.oncrpc_capture.proofs.Printed.{on_ok}
use Rattle.capture_packets.specs.View.{datagram_view}
use Rattle.oncrpc_capture.proofs.Datagrams.{told, untold}
use Rattle.oncrpc_capture.proofs.desk.Desk.datagram_at.Goals as goal

pub returns-then-not-is_told-clause-tells : goal.returns-then-not-is_told-clause-tells
returns-then-not-is_told-clause-tells g c =
    untold c.args.self.now.frame (datagram_view c.args.datagram) _ _ _
    (c.is_told-is_told.ensures.untold c.if-not-is_told.true)

pub returns-clause-tells : goal.returns-clause-tells
returns-clause-tells g c = on_ok _
    (λ h. told c.args.self.now.frame (datagram_view c.args.datagram) _ _ _ _ _ c.args.seen c.requires
    (c.is_told-is_told.ensures.told c.if-not-is_told.false) h) c.datagram.ensures
