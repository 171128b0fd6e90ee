-- The packets of IPv4 (RFC 791 section 3.1) and IPv6 (RFC 8200 sections 3 and 4).
use Rattle.std.specs.Prelude.{ℕ, zero, suc, ◌+◌, ◌-◌, ◌*◌, ◌/◌, ◌%◌, List, take, drop, length, not, ◌||◌, nat_lt, ◌==◌}
use Rattle.std.specs.Prelude.{if◌then◌else◌, Result, Ok, Err}
use Rattle.capture_packets.specs.declared.reason.Reason.{Reason}
use Rattle.capture_packets.specs.declared.reason.Reason.TheVariants.{Cut, BadInternet, Fragment}
use Rattle.capture_packets.specs.Fields.{byte_at, half_at}
use Rattle.capture_packets.specs.Packet.{CarriedView}
use Rattle.capture_packets.specs.Steps.{◌>>=◌}

-- ---- IPv4

-- the version: the upper half of the first byte
abbrev pub version : List ℕ → ℕ
version bytes = byte_at 0 bytes / 16

-- the length of the header: the lower half of the first byte, in words
abbrev pub header_length : List ℕ → ℕ
header_length bytes = 4 * (byte_at 0 bytes % 16)

-- the length of the packet with its header; what was captured behind it is padding
abbrev pub total_length : List ℕ → ℕ
total_length bytes = half_at 2 bytes

-- the header's length is at least 20, and the total length no less
unfoldable pub ipv4_of : List ℕ → Result CarriedView Reason
ipv4_of bytes =
    if nat_lt (length bytes) 20 then Err Cut
    else (if not (version bytes == 4) || nat_lt (header_length bytes) 20
    || nat_lt (total_length bytes) (header_length bytes) then Err BadInternet
    else (if nat_lt (length bytes) (header_length bytes) then Err Cut
    -- more fragments are to come, or the offset of this one is not zero: the lower 14 bits
    else (if not (half_at 6 bytes % 16384 == 0) then Err Fragment
    else Ok (record {
      from = take 4 (drop 12 bytes);
      to = take 4 (drop 16 bytes);
      protocol = byte_at 9 bytes;
      size = total_length bytes - header_length bytes;
      payload = take (total_length bytes - header_length bytes) (drop (header_length bytes) bytes);
    }))))

-- ---- IPv6

-- so many bytes have to be there: the packet may not have them, or they were not captured
abbrev pub required : ℕ → Reason → CarriedView → Result (Unit {0}) Reason
required count lacking c =
    if nat_lt c.size count then Err lacking else (if nat_lt (length c.payload) count then Err Cut else Ok tt)

-- behind a header of extension of so many bytes, whose first byte is the number of what follows
unfoldable pub behind : ℕ → CarriedView → Result CarriedView Reason
behind count c = required count BadInternet c >>= λ there. Ok (record {
  from = c.from;
  to = c.to;
  protocol = byte_at 0 c.payload;
  size = c.size - count;
  payload = drop count c.payload;
})

-- hop-by-hop options, routing and destination options: the second byte is how many units of eight bytes follow the
-- first (sections 4.3, 4.4 and 4.6)
unfoldable pub extension_passed : CarriedView → Result CarriedView Reason
extension_passed c = required 8 BadInternet c >>= λ there. behind (8 * (byte_at 1 c.payload + 1)) c

-- a fragment is the whole packet where its offset is zero and no more follow: the upper 13 bits and the lowest of the
-- second half (section 4.5, RFC 6946)
unfoldable pub fragment_passed : CarriedView → Result CarriedView Reason
fragment_passed c = required 8 BadInternet c >>= λ there.
    if not (half_at 2 c.payload / 8 == 0) || not (half_at 2 c.payload % 2 == 0) then Err Fragment else behind 8 c

-- the numbers of these headers: 0, 43 and 60, and 44 (section 4)
unfoldable pub header_passed : CarriedView → Result CarriedView Reason
header_passed c =
    if (c.protocol == 0) || (c.protocol == 43) || (c.protocol == 60) then extension_passed c
    else (if c.protocol == 44 then fragment_passed c else Ok c)

-- so many of them are passed at most
unfoldable pub extensions_passed : ℕ → CarriedView → Result CarriedView Reason
extensions_passed zero c = Ok c
extensions_passed (suc n) c = header_passed c >>= extensions_passed n

-- the header that each packet begins with (section 3)
unfoldable pub fixed_of : List ℕ → Result CarriedView Reason
fixed_of bytes =
    if nat_lt (length bytes) 40 then Err Cut
    else (if not (version bytes == 6) then Err BadInternet
    else Ok (record {
      from = take 16 (drop 8 bytes);
      to = take 16 (drop 24 bytes);
      protocol = byte_at 6 bytes;
      size = half_at 4 bytes;
      payload = take (half_at 4 bytes) (drop 40 bytes);
    }))

-- the packet behind its headers of extension: eight at most, of which section 4.1 has five
unfoldable pub ipv6_of : List ℕ → Result CarriedView Reason
ipv6_of bytes = fixed_of bytes >>= extensions_passed 8
