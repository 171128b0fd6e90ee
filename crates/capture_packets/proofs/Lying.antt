-- What a packet carries stands in the packet.
use Rattle.std.proofs.Common.{ℕ, zero, suc, ◌+◌, ◌-◌, ◌*◌, ◌/◌, ◌%◌, eqb, ltb, not, ◌||◌, List, length, take, drop}
use Rattle.std.proofs.Common.{Result, Ok, Err, refl}
use Rattle.capture_packets.specs.declared.links.Network.{Network}
use Rattle.capture_packets.specs.declared.links.Network.TheVariants.{V4, V6}
use Rattle.capture_packets.specs.declared.reason.Reason.{Reason}
use Rattle.capture_packets.specs.declared.reason.Reason.TheVariants.{BadInternet, BadDatagram, BadSegment}
use Rattle.capture_packets.specs.Fields.{byte_at, half_at}
use Rattle.capture_packets.specs.Internet.{version, header_length, total_length, ipv4_of, required, behind}
use Rattle.capture_packets.specs.Internet.{extension_passed, fragment_passed, header_passed, extensions_passed}
use Rattle.capture_packets.specs.Internet.{fixed_of, ipv6_of}
use Rattle.capture_packets.specs.Lies.{IsPart, Lies}
use Rattle.capture_packets.specs.Links.{is_tag, tag_passed, network_of_type, typed_of, behind_type, raw_of}
use Rattle.capture_packets.specs.Links.{network_of_family, family_of, loopback_of, network_of}
use Rattle.capture_packets.specs.Packet.{CarriedView, DatagramView, SegmentView, PacketView}
use Rattle.capture_packets.specs.Packets.{transport_of, internet_of, carried_packet, or_other, packet_of}
use Rattle.capture_packets.specs.Transport.{datagram_length, datagram_of, data_offset, segment_of}
use Rattle.capture_packets.proofs.Parts.{part_all, part_range, part_drop, part_of_part, Gives, given, not_given}
use Rattle.capture_packets.proofs.Parts.{given_either, given_next, given_any}

-- ---- links

abbrev TypeLies : List ℕ → ℕ × List ℕ → Type 0
TypeLies bytes x = IsPart x.1 bytes

abbrev NetworkLies : List ℕ → Network × List ℕ → Type 0
NetworkLies bytes x = IsPart x.1 bytes

tag_lies : (kind : ℕ) (bytes : List ℕ) → Gives (TypeLies bytes) (tag_passed kind bytes)
unfolding tag_passed
tag_lies kind bytes =
    let P = TypeLies bytes in
    given_either P (is_tag kind) _ _
    (given_either P (ltb (length bytes) 4) _ _ (not_given P _) (given P _ (part_drop 4 bytes)))
    (given P _ (part_all bytes))

typed_lies : (kind : ℕ) (bytes : List ℕ) → Gives (NetworkLies bytes) (typed_of kind bytes)
unfolding typed_of
typed_lies kind bytes =
    let Q = NetworkLies bytes in
    given_next (TypeLies bytes) Q (tag_passed kind bytes) _ (tag_lies kind bytes)
    (λ first p. given_next (TypeLies first.1) Q (tag_passed first.0 first.1) _ (tag_lies first.0 first.1)
    (λ second q. given_next (λ (n : Network). Unit {0}) Q (network_of_type second.0) _
    (given_any (network_of_type second.0))
    (λ n r. given Q _ (part_of_part second.1 first.1 bytes q p))))

lies_behind : (m : ℕ) (bytes : List ℕ) (r : Result (Network × List ℕ) Reason) → Gives (NetworkLies (drop m bytes)) r
    → Gives (NetworkLies bytes) r
lies_behind m bytes r p =
    record { holds = λ x e. part_of_part x.1 (drop m bytes) bytes (p.holds x e) (part_drop m bytes) }

behind_type_lies : (place header : ℕ) (bytes : List ℕ) → Gives (NetworkLies bytes) (behind_type place header bytes)
unfolding behind_type
behind_type_lies place header bytes =
    given_either (NetworkLies bytes) (ltb (length bytes) header) _ _ (not_given (NetworkLies bytes) _)
    (lies_behind header bytes (typed_of (half_at place bytes) (drop header bytes))
    (typed_lies (half_at place bytes) (drop header bytes)))

raw_lies : (bytes : List ℕ) → Gives (NetworkLies bytes) (raw_of bytes)
unfolding raw_of
raw_lies bytes =
    let P = NetworkLies bytes in
    given_either P (eqb (length bytes) 0) _ _ (not_given P _)
    (given_either P (eqb (byte_at 0 bytes / 16) 4) _ _ (given P _ (part_all bytes))
    (given_either P (eqb (byte_at 0 bytes / 16) 6) _ _ (given P _ (part_all bytes)) (not_given P _)))

loopback_lies : (bytes : List ℕ) → Gives (NetworkLies bytes) (loopback_of bytes)
unfolding loopback_of
loopback_lies bytes =
    let P = NetworkLies bytes in
    given_either P (ltb (length bytes) 4) _ _ (not_given P _)
    (given_next (λ (n : Network). Unit {0}) P (network_of_family (family_of bytes)) _
    (given_any (network_of_family (family_of bytes))) (λ n r. given P _ (part_drop 4 bytes)))

network_lies : (link : ℕ) (bytes : List ℕ) → Gives (NetworkLies bytes) (network_of link bytes)
unfolding network_of
network_lies link bytes =
    let P = NetworkLies bytes in
    given_either P (eqb link 1) _ _ (behind_type_lies 12 14 bytes)
    (given_either P (eqb link 113) _ _ (behind_type_lies 14 16 bytes)
    (given_either P (eqb link 276) _ _ (behind_type_lies 0 20 bytes)
    (given_either P (eqb link 12 || eqb link 14 || eqb link 101) _ _ (raw_lies bytes)
    (given_either P (eqb link 228) _ _ (given P _ (part_all bytes))
    (given_either P (eqb link 229) _ _ (given P _ (part_all bytes))
    (given_either P (eqb link 0 || eqb link 108) _ _ (loopback_lies bytes) (not_given P _)))))))

-- ---- the internet layer

record CarriedLies (bytes : List ℕ) (c : CarriedView) : Type 0 where
  from_lies : IsPart c.from bytes
  to_lies : IsPart c.to bytes
  payload_lies : IsPart c.payload bytes

ipv4_lies : (bytes : List ℕ) → Gives (CarriedLies bytes) (ipv4_of bytes)
unfolding ipv4_of
ipv4_lies bytes =
    let P = CarriedLies bytes in
    let header = header_length bytes in
    let total = total_length bytes in
    given_either P (ltb (length bytes) 20) _ _ (not_given P _)
    (given_either P (not (eqb (version bytes) 4) || ltb header 20 || ltb total header) _ _ (not_given P _)
    (given_either P (ltb (length bytes) header) _ _ (not_given P _)
    (given_either P (not (eqb (half_at 6 bytes % 16384) 0)) _ _ (not_given P _) (given P _ (record {
      from_lies = part_range 4 12 bytes;
      to_lies = part_range 4 16 bytes;
      payload_lies = part_range (total - header) header bytes;
    })))))

abbrev AnyUnit : Unit {0} → Type 0
AnyUnit x = Unit {0}

behind_lies : (bytes : List ℕ) (n : ℕ) (c : CarriedView) → CarriedLies bytes c → Gives (CarriedLies bytes) (behind n c)
unfolding behind
behind_lies bytes n c h =
    given_next AnyUnit (CarriedLies bytes) (required n BadInternet c) _ (given_any (required n BadInternet c))
    (λ there r. given (CarriedLies bytes) _ (record {
      from_lies = h.from_lies;
      to_lies = h.to_lies;
      payload_lies = part_of_part (drop n c.payload) c.payload bytes (part_drop n c.payload) h.payload_lies;
    }))

extension_lies : (bytes : List ℕ) (c : CarriedView) → CarriedLies bytes c
    → Gives (CarriedLies bytes) (extension_passed c)
unfolding extension_passed
extension_lies bytes c h =
    given_next AnyUnit (CarriedLies bytes) (required 8 BadInternet c) _ (given_any (required 8 BadInternet c))
    (λ there r. behind_lies bytes (8 * (byte_at 1 c.payload + 1)) c h)

fragment_lies : (bytes : List ℕ) (c : CarriedView) → CarriedLies bytes c
    → Gives (CarriedLies bytes) (fragment_passed c)
unfolding fragment_passed
fragment_lies bytes c h =
    let P = CarriedLies bytes in
    let place = half_at 2 c.payload in
    given_next AnyUnit P (required 8 BadInternet c) _ (given_any (required 8 BadInternet c))
    (λ there r. given_either P (not (eqb (place / 8) 0) || not (eqb (place % 2) 0)) _ _ (not_given P _)
    (behind_lies bytes 8 c h))

header_lies : (bytes : List ℕ) (c : CarriedView) → CarriedLies bytes c → Gives (CarriedLies bytes) (header_passed c)
unfolding header_passed
header_lies bytes c h =
    let P = CarriedLies bytes in
    given_either P (eqb c.protocol 0 || eqb c.protocol 43 || eqb c.protocol 60) _ _ (extension_lies bytes c h)
    (given_either P (eqb c.protocol 44) _ _ (fragment_lies bytes c h) (given P c h))

extensions_lie : (bytes : List ℕ) (n : ℕ) (c : CarriedView) → CarriedLies bytes c
    → Gives (CarriedLies bytes) (extensions_passed n c)
unfolding extensions_passed
extensions_lie bytes zero c h = given (CarriedLies bytes) c h
extensions_lie bytes (suc n) c h =
    given_next (CarriedLies bytes) (CarriedLies bytes) (header_passed c) (extensions_passed n) (header_lies bytes c h)
    (λ d p. extensions_lie bytes n d p)

fixed_lies : (bytes : List ℕ) → Gives (CarriedLies bytes) (fixed_of bytes)
unfolding fixed_of
fixed_lies bytes =
    let P = CarriedLies bytes in
    given_either P (ltb (length bytes) 40) _ _ (not_given P _)
    (given_either P (not (eqb (version bytes) 6)) _ _ (not_given P _) (given P _ (record {
      from_lies = part_range 16 8 bytes;
      to_lies = part_range 16 24 bytes;
      payload_lies = part_range (half_at 4 bytes) 40 bytes;
    })))

ipv6_lies : (bytes : List ℕ) → Gives (CarriedLies bytes) (ipv6_of bytes)
unfolding ipv6_of
ipv6_lies bytes =
    given_next (CarriedLies bytes) (CarriedLies bytes) (fixed_of bytes) (extensions_passed 8) (fixed_lies bytes)
    (λ c p. extensions_lie bytes 8 c p)

internet_lies : (n : Network) (bytes : List ℕ) → Gives (CarriedLies bytes) (internet_of n bytes)
internet_lies V4 bytes = ipv4_lies bytes
internet_lies V6 bytes = ipv6_lies bytes

-- ---- the transport layer

record PartsLie (from to content bytes : List ℕ) : Type 0 where
  from_lies : IsPart from bytes
  to_lies : IsPart to bytes
  content_lies : IsPart content bytes

abbrev DatagramLies : List ℕ → DatagramView → Type 0
DatagramLies bytes d = PartsLie d.from.address d.to.address d.content bytes

abbrev SegmentLies : List ℕ → SegmentView → Type 0
SegmentLies bytes s = PartsLie s.from.address s.to.address s.content bytes

datagram_lies : (bytes : List ℕ) (c : CarriedView) → CarriedLies bytes c → Gives (DatagramLies bytes) (datagram_of c)
unfolding datagram_of
datagram_lies bytes c h =
    let P = DatagramLies bytes in
    let count = datagram_length c.payload in
    let range = part_range (count - 8) 8 c.payload in
    given_next AnyUnit P (required 8 BadDatagram c) _ (given_any (required 8 BadDatagram c))
    (λ there r. given_either P (ltb count 8 || ltb c.size count) _ _ (not_given P _) (given P _ (record {
      from_lies = h.from_lies;
      to_lies = h.to_lies;
      content_lies = part_of_part (take (count - 8) (drop 8 c.payload)) c.payload bytes range h.payload_lies;
    })))

segment_lies : (bytes : List ℕ) (c : CarriedView) → CarriedLies bytes c → Gives (SegmentLies bytes) (segment_of c)
unfolding segment_of
segment_lies bytes c h =
    let P = SegmentLies bytes in
    let offset = data_offset c.payload in
    given_next AnyUnit P (required 20 BadSegment c) _ (given_any (required 20 BadSegment c))
    (λ there r. given_either P (ltb offset 20) _ _ (not_given P _)
    (given_next AnyUnit P (required offset BadSegment c) _ (given_any (required offset BadSegment c))
    (λ whole q. given P _ (record {
      from_lies = h.from_lies;
      to_lies = h.to_lies;
      content_lies = part_of_part (drop offset c.payload) c.payload bytes (part_drop offset c.payload) h.payload_lies;
    }))))

abbrev PacketLies : List ℕ → PacketView → Type 0
PacketLies bytes p = Lies p bytes

transport_lies : (bytes : List ℕ) (c : CarriedView) → CarriedLies bytes c → Gives (PacketLies bytes) (transport_of c)
unfolding transport_of
transport_lies bytes c h =
    let P = PacketLies bytes in
    given_either P (eqb c.protocol 17) _ _
    (given_next (DatagramLies bytes) P (datagram_of c) _ (datagram_lies bytes c h)
    (λ d p. given P _ (p.from_lies, p.to_lies, p.content_lies)))
    (given_either P (eqb c.protocol 6) _ _
    (given_next (SegmentLies bytes) P (segment_of c) _ (segment_lies bytes c h)
    (λ s p. given P _ (p.from_lies, p.to_lies, p.content_lies))) (not_given P _))

carried_wider : (part bytes : List ℕ) → IsPart part bytes → (c : CarriedView) → CarriedLies part c → CarriedLies bytes c
carried_wider part bytes h c p = record {
  from_lies = part_of_part c.from part bytes p.from_lies h;
  to_lies = part_of_part c.to part bytes p.to_lies h;
  payload_lies = part_of_part c.payload part bytes p.payload_lies h;
}

carried_lies : (link : ℕ) (bytes : List ℕ) → Gives (PacketLies bytes) (carried_packet link bytes)
unfolding carried_packet
carried_lies link bytes =
    given_next (NetworkLies bytes) (PacketLies bytes) (network_of link bytes) _ (network_lies link bytes)
    (λ n p. given_next (CarriedLies n.1) (PacketLies bytes) (internet_of n.0 n.1) _ (internet_lies n.0 n.1)
    (λ c q. transport_lies bytes c (carried_wider n.1 bytes p c q)))

other_lies : (bytes : List ℕ) (r : Result PacketView Reason) → Gives (PacketLies bytes) r → Lies (or_other r) bytes
other_lies bytes (Ok p) h = h.holds p refl
other_lies bytes (Err reason) h = tt

pub packet_lies : (link : ℕ) (bytes : List ℕ) → Lies (packet_of link bytes) bytes
unfolding packet_of
packet_lies link bytes = other_lies bytes (carried_packet link bytes) (carried_lies link bytes)
