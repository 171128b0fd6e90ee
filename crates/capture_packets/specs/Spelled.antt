-- Frames of Ethernet with a datagram or a segment, spelled from their fields (RFC 894, RFC 791 section 3.1, RFC 768,
-- RFC 9293 section 3.1).
use Rattle.std.specs.Prelude.{◌≡◌, ℕ, ◌+◌, ◌*◌, ◌/◌, ◌%◌, ◌^◌, ◌<◌, List, [], ◌∷◌, ◌++◌, length}
use Rattle.capture_packets.specs.Packet.{Datagram, Segment}
use Rattle.capture_packets.specs.Packets.{packet_of}
use Rattle.capture_packets.specs.Transport.{flags_of}

-- four bytes
pub record Four : Type 0 where
  pub a : ℕ
  pub b : ℕ
  pub c : ℕ
  pub d : ℕ

-- four bytes, and what follows
abbrev pub four : Four → List ℕ → List ℕ
four x rest = x.a ∷ x.b ∷ x.c ∷ x.d ∷ rest

-- a number of 16 bits, the highest byte first (RFC 791 appendix B), and what follows
abbrev pub half : ℕ → List ℕ → List ℕ
half n rest = n / 256 ∷ n % 256 ∷ rest

-- the fields of such a frame below the transport: both addresses of the link, type of service, identification, time to
-- live, the sum of the header, the addresses, and the padding of the frame
pub record FrameView : Type 0 where
  pub link_first : Four
  pub link_second : Four
  pub link_third : Four
  pub service : ℕ
  pub identification : ℕ
  pub life : ℕ
  pub sum : ℕ
  pub from : Four
  pub to : Four
  pub padding : List ℕ

-- the fields of UDP: ports, sum and data (RFC 768)
pub record UdpView : Type 0 where
  pub from_port : ℕ
  pub to_port : ℕ
  pub check : ℕ
  pub content : List ℕ

-- the fields of TCP without options: ports, sequence number and acknowledged number in two halves each, control bits,
-- window, sum, urgent pointer and data (RFC 9293 section 3.1)
pub record TcpView : Type 0 where
  pub from_port : ℕ
  pub to_port : ℕ
  pub sequence_high : ℕ
  pub sequence_low : ℕ
  pub acknowledged : Four
  pub control : ℕ
  pub window : ℕ
  pub check : ℕ
  pub urgent : ℕ
  pub content : List ℕ

-- the header of UDP, its data, and what follows
abbrev pub udp_bytes : UdpView → List ℕ → List ℕ
udp_bytes u rest = half u.from_port (half u.to_port (half (8 + length u.content) (half u.check (u.content ++ rest))))

-- the header of TCP of five words, its data, and what follows
abbrev pub tcp_bytes : TcpView → List ℕ → List ℕ
tcp_bytes t rest =
    half t.from_port (half t.to_port (half t.sequence_high (half t.sequence_low (four t.acknowledged
    (80 ∷ t.control ∷ half t.window (half t.check (half t.urgent (t.content ++ rest))))))))

-- the header of IPv4 of five words, which forbids fragments, and so many bytes of a protocol (RFC 791 section 3.1)
abbrev pub internet_bytes : FrameView → (protocol size : ℕ) → List ℕ → List ℕ
internet_bytes f protocol size payload =
    69 ∷ f.service ∷ half (20 + size) (half f.identification (64 ∷ 0 ∷ f.life ∷ protocol ∷ half f.sum
    (four f.from (four f.to payload))))

-- the header of Ethernet, and a packet of IPv4 (RFC 894)
abbrev pub frame_bytes : FrameView → List ℕ → List ℕ
frame_bytes f packet = four f.link_first (four f.link_second (four f.link_third (8 ∷ 0 ∷ packet)))

-- a frame with a datagram
abbrev pub udp_frame : FrameView → UdpView → List ℕ
udp_frame f u = frame_bytes f (internet_bytes f 17 (8 + length u.content) (udp_bytes u f.padding))

-- a frame with a segment
abbrev pub tcp_frame : FrameView → TcpView → List ℕ
tcp_frame f t = frame_bytes f (internet_bytes f 6 (20 + length t.content) (tcp_bytes t f.padding))

-- Such a frame carries that datagram, whatever pads it.
abbrev pub DatagramsAreRead : Type 0
DatagramsAreRead = (f : FrameView) (u : UdpView) → 28 + length u.content < 2 ^ 16
    → packet_of 1 (udp_frame f u) ≡ Datagram (record {
      from = record { address = four f.from []; port = u.from_port };
      to = record { address = four f.to []; port = u.to_port };
      content = u.content;
      missing = 0;
    })

-- Such a frame carries that segment, whatever pads it.
abbrev pub SegmentsAreRead : Type 0
SegmentsAreRead = (f : FrameView) (t : TcpView) → 40 + length t.content < 2 ^ 16
    → packet_of 1 (tcp_frame f t) ≡ Segment (record {
      from = record { address = four f.from []; port = t.from_port };
      to = record { address = four f.to []; port = t.to_port };
      sequence = t.sequence_high * 65536 + t.sequence_low;
      flags = flags_of t.control;
      content = t.content;
      missing = 0;
    })
