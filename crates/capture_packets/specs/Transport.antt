-- The datagram of UDP (RFC 768), and the segment of TCP (RFC 9293 section 3.1).
use Rattle.std.specs.Prelude.{ℕ, ◌-◌, ◌*◌, ◌/◌, ◌%◌, List, take, drop, length, ◌||◌, nat_lt, ◌==◌, if◌then◌else◌}
use Rattle.std.specs.Prelude.{Result, Ok, Err}
use Rattle.capture_packets.specs.declared.reason.Reason.{Reason}
use Rattle.capture_packets.specs.declared.reason.Reason.TheVariants.{BadDatagram, BadSegment}
use Rattle.capture_packets.specs.Fields.{byte_at, half_at, word_at}
use Rattle.capture_packets.specs.Internet.{required}
use Rattle.capture_packets.specs.Packet.{CarriedView, DatagramView, FlagsView, SegmentView}
use Rattle.capture_packets.specs.Steps.{◌>>=◌}

-- the length of a datagram with its header of eight bytes
abbrev pub datagram_length : List ℕ → ℕ
datagram_length header = half_at 4 header

-- ports, length and sum, and then the data, which ends with that length
unfoldable pub datagram_of : CarriedView → Result DatagramView Reason
datagram_of c = required 8 BadDatagram c >>= λ there.
    if nat_lt (datagram_length c.payload) 8 || nat_lt c.size (datagram_length c.payload) then Err BadDatagram
    else Ok (record {
      from = record { address = c.from; port = half_at 0 c.payload };
      to = record { address = c.to; port = half_at 2 c.payload };
      content = take (datagram_length c.payload - 8) (drop 8 c.payload);
      missing = datagram_length c.payload - 8 - length (take (datagram_length c.payload - 8) (drop 8 c.payload));
    })

-- FIN, SYN and RST are the bits of 1, 2 and 4
abbrev pub flags_of : ℕ → FlagsView
flags_of bits = record { fin = bits % 2 == 1; syn = bits / 2 % 2 == 1; reset = bits / 4 % 2 == 1 }

-- the data offset: the upper half of the byte at place 12, in words
abbrev pub data_offset : List ℕ → ℕ
data_offset header = 4 * (byte_at 12 header / 16)

-- ports, sequence number, acknowledged number, data offset and control bits, and then the data, which ends with the
-- internet packet
unfoldable pub segment_of : CarriedView → Result SegmentView Reason
segment_of c = required 20 BadSegment c >>= λ there.
    if nat_lt (data_offset c.payload) 20 then Err BadSegment
    else required (data_offset c.payload) BadSegment c >>= λ whole. Ok (record {
      from = record { address = c.from; port = half_at 0 c.payload };
      to = record { address = c.to; port = half_at 2 c.payload };
      sequence = word_at 4 c.payload;
      flags = flags_of (byte_at 13 c.payload);
      content = drop (data_offset c.payload) c.payload;
      missing = c.size - length c.payload;
    })
