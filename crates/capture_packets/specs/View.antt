-- The view of each value of the code.
use Rattle.capture_packets.specs.declared.carried.Carried.{Carried}
use Rattle.capture_packets.specs.declared.packet.Endpoint.{Endpoint}
use Rattle.capture_packets.specs.declared.packet.Datagram.{Datagram}
use Rattle.capture_packets.specs.declared.packet.Flags.{Flags}
use Rattle.capture_packets.specs.declared.packet.Segment.{Segment}
use Rattle.capture_packets.specs.declared.packet.Packet.{Packet}
use Rattle.capture_packets.specs.declared.packet.Packet.TheVariants as packet
use Rattle.capture_packets.specs.Packet as view
use Rattle.capture_packets.specs.Packet.{CarriedView, EndpointView, DatagramView, FlagsView, SegmentView, PacketView}

-- what an internet packet has for the transport
abbrev pub carried_view : Carried → CarriedView
carried_view c =
    record { from = c.from.now; to = c.to.now; protocol = c.protocol; size = c.size; payload = c.payload.now }

-- an address and a port
abbrev pub endpoint_view : Endpoint → EndpointView
endpoint_view e = record { address = e.address.now; port = e.port }

-- a datagram (RFC 768)
abbrev pub datagram_view : Datagram → DatagramView
datagram_view d =
    record { from = endpoint_view d.from; to = endpoint_view d.to; content = d.bytes.now; missing = d.missing }

-- the control bits (RFC 9293 section 3.1)
abbrev pub flags_view : Flags → FlagsView
flags_view f = record { fin = f.fin; syn = f.syn; reset = f.reset }

-- a segment (RFC 9293 section 3.1)
abbrev pub segment_view : Segment → SegmentView
segment_view s = record {
  from = endpoint_view s.from;
  to = endpoint_view s.to;
  sequence = s.sequence;
  flags = flags_view s.flags;
  content = s.bytes.now;
  missing = s.missing;
}

-- what a packet carries
abbrev pub packet_view : Packet → PacketView
packet_view (packet.Datagram d) = view.Datagram (datagram_view d)
packet_view (packet.Segment s) = view.Segment (segment_view s)
packet_view (packet.Other reason) = view.Other reason
