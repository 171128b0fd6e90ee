-- Who sent a packet to whom, and how that is written.
use Rattle.std.specs.Prelude.{◌≡◌, ℕ, ◌++◌, length, codes, decimal}
use Rattle.std.specs.Net.Addr.{segments_of}
use Rattle.std.specs.Net.Text.{ipv4_text, ipv6_text, socket_text}
use Rattle.std.specs.declared.net.socket_addr.SocketAddr.{SocketAddr}
use Rattle.capture_packets.specs.Packet.{EndpointView}
use Rattle.oncrpc_capture.specs.declared.seen.Seen.{Seen}

-- Its text is that of an address and a port: of four bytes with dots, of sixteen in brackets as of RFC 5952.
pub record IsNode (e : EndpointView) (node : SocketAddr) : Type 0 where
  pub four : length e.address ≡ 4 → socket_text node ≡ ipv4_text e.address ++ codes ":" ++ decimal e.port
  pub sixteen : length e.address ≡ 16
      → socket_text node ≡ codes "[" ++ ipv6_text (segments_of e.address) ++ codes "]:" ++ decimal e.port

-- It is the packet of this number, and went from the one to the other. Its time is any here.
pub record IsSeen (frame : ℕ) (from to : EndpointView) (seen : Seen) : Type 0 where
  pub frame_is : seen.frame ≡ frame
  pub from_is : IsNode from seen.from
  pub to_is : IsNode to seen.to
