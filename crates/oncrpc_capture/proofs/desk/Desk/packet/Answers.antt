use Rattle.oncrpc_capture.proofs.Datagrams.{datagram_goes, other_goes, segment_goes}
use Rattle.oncrpc_capture.proofs.desk.Desk.packet.Goals as goal

pub returns-in-Datagram-clause-goes : goal.returns-in-Datagram-clause-goes
returns-in-Datagram-clause-goes g c =
    datagram_goes c.args.self.now.ports.now c.args.self.now.frame _ _ _ _ _ _ c.datagram.ensures.flows _ _ _
    c.in-Datagram.ensures c.datagram.ensures.brings

pub returns-in-Segment-clause-goes : goal.returns-in-Segment-clause-goes
returns-in-Segment-clause-goes g c =
    segment_goes c.args.self.now.ports.now c.args.self.now.frame _ _ _ _ _ _ _ _ _ c.in-Segment.ensures
    c.segment.ensures.goes

pub returns-in-Other-clause-goes : goal.returns-in-Other-clause-goes
returns-in-Other-clause-goes g c =
    other_goes c.args.self.now.ports.now c.args.self.now.frame _ _ _ _ _ _ c.other.ensures.flows _ _ _
    c.in-Other.ensures c.other.ensures.brings
