-- A frame that is spelled from its fields is read as its datagram or its segment.
use Rattle.std.proofs.Common.{◌≡◌, ℕ, suc, ◌+◌, ◌-◌, ◌*◌, false, ltb, List, [], ◌++◌, length, take, Ok, refl, sym, ap}
use Rattle.std.proofs.Common.{◌∙◌, ◌∷◌, arith}
use Rattle.std.proofs.lemmas.Bool.{le-ltb}
use Rattle.std.proofs.lemmas.List.{append-nil, take_at}
use Rattle.capture_packets.specs.declared.links.Network.TheVariants.{V4}
use Rattle.capture_packets.specs.Fields.{half_at, word_at}
use Rattle.capture_packets.specs.Internet.{ipv4_of}
use Rattle.capture_packets.specs.Links.{tag_passed, typed_of, behind_type, network_of}
use Rattle.capture_packets.specs.Packet.{CarriedView, DatagramView, SegmentView}
use Rattle.capture_packets.specs.Packets.{transport_of, carried_packet, packet_of}
use Rattle.capture_packets.specs.Spelled.{four, half, FrameView, UdpView, TcpView, udp_bytes, tcp_bytes}
use Rattle.capture_packets.specs.Spelled.{internet_bytes, frame_bytes, DatagramsAreRead, SegmentsAreRead}
use Rattle.capture_packets.specs.Transport.{datagram_of, flags_of, segment_of}

-- ---- the link

type_is : (f : FrameView) (packet : List ℕ) → half_at 12 (frame_bytes f packet) ≡ 2048
unfolding half_at
type_is f packet = refl

of_ethernet : (f : FrameView) (packet : List ℕ) → network_of 1 (frame_bytes f packet) ≡ Ok (V4, packet)
unfolding tag_passed typed_of behind_type network_of
of_ethernet f packet =
    let long : ltb (length (frame_bytes f packet)) 14 ≡ false = le-ltb _ _ (omega arith) in
    simp (long, type_is f packet)

-- ---- the packet of IPv4

total_is : (f : FrameView) (protocol size : ℕ) (payload : List ℕ)
    → half_at 2 (internet_bytes f protocol size payload) ≡ 20 + size
unfolding half_at
total_is f protocol size payload = omega arith

fragment_is : (f : FrameView) (protocol size : ℕ) (payload : List ℕ)
    → half_at 6 (internet_bytes f protocol size payload) ≡ 16384
unfolding half_at
fragment_is f protocol size payload = refl

abbrev carried_of : FrameView → (protocol size : ℕ) → List ℕ → CarriedView
carried_of f protocol size payload = record {
  from = four f.from [];
  to = four f.to [];
  protocol = protocol;
  size = size;
  payload = payload;
}

of_internet : (f : FrameView) (protocol size : ℕ) (payload : List ℕ)
    → ipv4_of (internet_bytes f protocol size payload) ≡ Ok (carried_of f protocol size (take size payload))
unfolding ipv4_of
of_internet f protocol size payload =
    let long : ltb (length (internet_bytes f protocol size payload)) 20 ≡ false = le-ltb _ _ (omega arith) in
    let total : ltb (20 + size) 20 ≡ false = le-ltb _ _ (omega arith) in
    let rest : 20 + size - 20 ≡ size = omega arith in
    simp (long, total_is f protocol size payload, total, fragment_is f protocol size payload, rest)

-- ---- the datagram

append_back : (x : List ℕ) → x ≡ x ++ []
append_back x = sym (append-nil x)

-- the datagram without the padding
udp_taken : (u : UdpView) (padding : List ℕ) → take (8 + length u.content) (udp_bytes u padding) ≡ udp_bytes u []
udp_taken u padding =
    let n = length u.content in
    let e : 8 + n ≡ suc (suc (suc (suc (suc (suc (suc (suc n))))))) = omega arith in
    ap (λ (k : ℕ). take k (udp_bytes u padding)) e
    ∙ ap (λ (x : List ℕ). half u.from_port (half u.to_port (half (8 + n) (half u.check x))))
    (take_at u.content padding n refl ∙ append_back u.content)

udp_from : (u : UdpView) → half_at 0 (udp_bytes u []) ≡ u.from_port
unfolding half_at
udp_from u = omega arith

udp_to : (u : UdpView) → half_at 2 (udp_bytes u []) ≡ u.to_port
unfolding half_at
udp_to u = omega arith

udp_length : (u : UdpView) → half_at 4 (udp_bytes u []) ≡ 8 + length u.content
unfolding half_at
udp_length u = omega arith

abbrev datagram_in : FrameView → UdpView → DatagramView
datagram_in f u = record {
  from = record { address = four f.from []; port = u.from_port };
  to = record { address = four f.to []; port = u.to_port };
  content = u.content;
  missing = 0;
}

of_udp : (f : FrameView) (u : UdpView)
    → datagram_of (carried_of f 17 (8 + length u.content) (udp_bytes u [])) ≡ Ok (datagram_in f u)
unfolding datagram_of
of_udp f u =
    let n = length u.content in
    let some : ltb (8 + n) 8 ≡ false = le-ltb _ _ (omega arith) in
    let there : ltb (length (udp_bytes u [])) 8 ≡ false = le-ltb _ _ (omega arith) in
    let within : ltb (8 + n) (8 + n) ≡ false = le-ltb _ _ (omega arith) in
    let size : 8 + n - 8 ≡ n = omega arith in
    let all : take n (u.content ++ []) ≡ u.content = take_at u.content [] n refl in
    let none : n - n ≡ 0 = omega arith in
    simp (some, there, udp_length u, within, udp_from u, udp_to u, size, all, none)

pub datagrams_are_read : DatagramsAreRead
unfolding transport_of carried_packet packet_of
datagrams_are_read = λ f u fits. rw (
  of_ethernet f (internet_bytes f 17 (8 + length u.content) (udp_bytes u f.padding)),
  of_internet f 17 (8 + length u.content) (udp_bytes u f.padding),
  udp_taken u f.padding,
  of_udp f u,
) refl

-- ---- the segment

-- the header of TCP, and what follows
abbrev tcp_head : TcpView → List ℕ → List ℕ
tcp_head t rest =
    half t.from_port (half t.to_port (half t.sequence_high (half t.sequence_low (four t.acknowledged
    (80 ∷ t.control ∷ half t.window (half t.check (half t.urgent rest)))))))

-- the segment without the padding
tcp_taken : (t : TcpView) (padding : List ℕ) → take (20 + length t.content) (tcp_bytes t padding) ≡ tcp_head t t.content
tcp_taken t padding =
    let n = length t.content in
    let m = suc (suc (suc (suc (suc (suc (suc (suc (suc (suc n))))))))) in
    let e : 20 + n ≡ suc (suc (suc (suc (suc (suc (suc (suc (suc (suc m))))))))) = omega arith in
    ap (λ (k : ℕ). take k (tcp_bytes t padding)) e
    ∙ ap (λ (x : List ℕ). tcp_head t x) (take_at t.content padding n refl)

tcp_from : (t : TcpView) → half_at 0 (tcp_head t t.content) ≡ t.from_port
unfolding half_at
tcp_from t = omega arith

tcp_to : (t : TcpView) → half_at 2 (tcp_head t t.content) ≡ t.to_port
unfolding half_at
tcp_to t = omega arith

tcp_sequence : (t : TcpView) → word_at 4 (tcp_head t t.content) ≡ t.sequence_high * 65536 + t.sequence_low
unfolding word_at
tcp_sequence t = omega arith

abbrev segment_in : FrameView → TcpView → SegmentView
segment_in f t = record {
  from = record { address = four f.from []; port = t.from_port };
  to = record { address = four f.to []; port = t.to_port };
  sequence = t.sequence_high * 65536 + t.sequence_low;
  flags = flags_of t.control;
  content = t.content;
  missing = 0;
}

of_tcp : (f : FrameView) (t : TcpView)
    → segment_of (carried_of f 6 (20 + length t.content) (tcp_head t t.content)) ≡ Ok (segment_in f t)
unfolding segment_of
of_tcp f t =
    let n = length t.content in
    let some : ltb (20 + n) 20 ≡ false = le-ltb _ _ (omega arith) in
    let there : ltb (length (tcp_head t t.content)) 20 ≡ false = le-ltb _ _ (omega arith) in
    let none : 20 + n - length (tcp_head t t.content) ≡ 0 = omega arith in
    simp (some, there, tcp_from t, tcp_to t, tcp_sequence t, none)

pub segments_are_read : SegmentsAreRead
unfolding transport_of carried_packet packet_of
segments_are_read = λ f t fits. rw (
  of_ethernet f (internet_bytes f 6 (20 + length t.content) (tcp_bytes t f.padding)),
  of_internet f 6 (20 + length t.content) (tcp_bytes t f.padding),
  tcp_taken t f.padding,
  of_tcp f t,
) refl
