-- What a packet carries, by its layers from the link to the transport.
use Rattle.std.specs.Prelude.{ℕ, List, ◌==◌, if◌then◌else◌, Result, Ok, Err}
use Rattle.capture_packets.specs.declared.links.Network.{Network}
use Rattle.capture_packets.specs.declared.links.Network.TheVariants.{V4, V6}
use Rattle.capture_packets.specs.declared.reason.Reason.{Reason}
use Rattle.capture_packets.specs.declared.reason.Reason.TheVariants.{OtherProtocol}
use Rattle.capture_packets.specs.Internet.{ipv4_of, ipv6_of}
use Rattle.capture_packets.specs.Links.{network_of}
use Rattle.capture_packets.specs.Packet.{CarriedView, PacketView, Datagram, Segment, Other}
use Rattle.capture_packets.specs.Steps.{◌>>=◌}
use Rattle.capture_packets.specs.Transport.{datagram_of, segment_of}

-- the protocol's number is 17 for UDP and 6 for TCP (RFC 768, RFC 9293 section 3.1)
unfoldable pub transport_of : CarriedView → Result PacketView Reason
transport_of c =
    if c.protocol == 17 then (datagram_of c >>= λ d. Ok (Datagram d))
    else (if c.protocol == 6 then (segment_of c >>= λ s. Ok (Segment s)) else Err OtherProtocol)

-- the packet of the version that the link names (RFC 791, RFC 8200)
abbrev pub internet_of : Network → List ℕ → Result CarriedView Reason
internet_of V4 bytes = ipv4_of bytes
internet_of V6 bytes = ipv6_of bytes

-- what the packet carries, or the first reason why it carries nothing that is told
unfoldable pub carried_packet : ℕ → List ℕ → Result PacketView Reason
carried_packet link bytes = do
  n ← network_of link bytes
  c ← internet_of n.0 n.1
  transport_of c

-- what is carried, or the reason
abbrev pub or_other : Result PacketView Reason → PacketView
or_other (Ok p) = p
or_other (Err reason) = Other reason

-- what a packet of this link carries
unfoldable pub packet_of : ℕ → List ℕ → PacketView
packet_of link bytes = or_other (carried_packet link bytes)
