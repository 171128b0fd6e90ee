-- What the packets of the frames carry, as the definitions compute it.
use Rattle.std.proofs.Common.{◌≡◌, [], ◌∷◌, true, false, take, refl}
use Rattle.capture_packets.specs.declared.reason.Reason.TheVariants.{Fragment}
use Rattle.capture_packets.specs.Fields.{half_at, word_at}
use Rattle.capture_packets.specs.Internet.{ipv4_of, behind, extension_passed, header_passed, extensions_passed}
use Rattle.capture_packets.specs.Internet.{fixed_of, ipv6_of}
use Rattle.capture_packets.specs.Links.{tag_passed, typed_of, behind_type, network_of}
use Rattle.capture_packets.specs.Packet.{Datagram, Segment, Other}
use Rattle.capture_packets.specs.Packets.{transport_of, carried_packet, packet_of}
use Rattle.capture_packets.specs.Transport.{datagram_of, segment_of}
use Rattle.example_watch.specs.Frames.{padded_frame, first_frame, client, server, loopback}
use Rattle.example_watch.specs.Frames.{options_frame, fragment_frame, first_address, second_address}

pub padded : packet_of 1 padded_frame ≡ Datagram (record {
  from = record { address = client; port = 1022 };
  to = record { address = server; port = 111 };
  content = 112 ∷ 105 ∷ 110 ∷ 103 ∷ [];
  missing = 0;
})
unfolding half_at tag_passed typed_of behind_type network_of ipv4_of datagram_of transport_of carried_packet packet_of
padded = refl

pub cut : packet_of 1 (take 44 padded_frame) ≡ Datagram (record {
  from = record { address = client; port = 1022 };
  to = record { address = server; port = 111 };
  content = 112 ∷ 105 ∷ [];
  missing = 2;
})
unfolding half_at tag_passed typed_of behind_type network_of ipv4_of datagram_of transport_of carried_packet packet_of
cut = refl

pub first : packet_of 1 first_frame ≡ Segment (record {
  from = record { address = loopback; port = 766 };
  to = record { address = loopback; port = 111 };
  sequence = 2294206155;
  flags = record { fin = false; syn = true; reset = false };
  content = [];
  missing = 0;
})
unfolding half_at word_at tag_passed typed_of behind_type network_of ipv4_of segment_of transport_of carried_packet
    packet_of
first = refl

pub behind_options : packet_of 1 options_frame ≡ Datagram (record {
  from = record { address = first_address; port = 1 };
  to = record { address = second_address; port = 2 };
  content = 97 ∷ 98 ∷ 99 ∷ 100 ∷ [];
  missing = 0;
})
unfolding half_at tag_passed typed_of behind_type network_of behind extension_passed header_passed extensions_passed
    fixed_of ipv6_of datagram_of transport_of carried_packet packet_of
behind_options = refl

pub fragment : packet_of 1 fragment_frame ≡ Other Fragment
unfolding half_at tag_passed typed_of behind_type network_of ipv4_of carried_packet packet_of
fragment = refl
