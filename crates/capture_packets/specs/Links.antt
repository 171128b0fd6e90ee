-- What stands before an internet packet, by the type of the link: the LINKTYPE_ numbers of
-- draft-ietf-opsawg-pcaplinktype.
use Rattle.std.specs.Prelude.{ℕ, ◌/◌, List, drop, length, Bool, ◌||◌, min, nat_lt, ◌==◌, if◌then◌else◌}
use Rattle.std.specs.Prelude.{Result, Ok, Err}
use Rattle.byteorder.specs.Endian.{big_number, little_number}
use Rattle.capture_packets.specs.declared.links.Network.{Network}
use Rattle.capture_packets.specs.declared.links.Network.TheVariants.{V4, V6}
use Rattle.capture_packets.specs.declared.reason.Reason.{Reason}
use Rattle.capture_packets.specs.declared.reason.Reason.TheVariants.{UnknownLink, Cut, NotInternet}
use Rattle.capture_packets.specs.Fields.{byte_at, half_at}
use Rattle.capture_packets.specs.Steps.{◌>>=◌}

-- the version of IP that an Ethernet type names (RFC 894, RFC 2464 section 3)
abbrev pub network_of_type : ℕ → Result Network Reason
network_of_type kind = if kind == 0x0800 then Ok V4 else (if kind == 0x86dd then Ok V6 else Err NotInternet)

-- the types that say that a tag follows (IEEE 802.1Q, 802.1ad)
abbrev pub is_tag : ℕ → Bool
is_tag kind = (kind == 0x8100) || (kind == 0x88a8)

-- behind a tag of two bytes the next type stands, and then what it names (IEEE 802.1Q)
unfoldable pub tag_passed : ℕ → List ℕ → Result (ℕ × List ℕ) Reason
tag_passed kind bytes =
    if is_tag kind
    then (if nat_lt (length bytes) 4 then Err Cut else Ok (half_at 2 bytes, drop 4 bytes))
    else Ok (kind, bytes)

-- what a type says of the bytes behind it; two tags are passed at most, one of the service and one of the customer
-- (IEEE 802.1ad)
unfoldable pub typed_of : ℕ → List ℕ → Result (Network × List ℕ) Reason
typed_of kind bytes = do
  first ← tag_passed kind bytes
  second ← tag_passed first.0 first.1
  network ← network_of_type second.0
  Ok (network, second.1)

-- a header of so many bytes, with the type at this place
unfoldable pub behind_type : ℕ → ℕ → List ℕ → Result (Network × List ℕ) Reason
behind_type place header bytes =
    if nat_lt (length bytes) header then Err Cut else typed_of (half_at place bytes) (drop header bytes)

-- no header: the first four bits of the packet are its version (RFC 791 section 3.1, RFC 8200 section 3)
unfoldable pub raw_of : List ℕ → Result (Network × List ℕ) Reason
raw_of bytes =
    if length bytes == 0 then Err Cut
    else (if byte_at 0 bytes / 16 == 4 then Ok (V4, bytes)
    else (if byte_at 0 bytes / 16 == 6 then Ok (V6, bytes) else Err NotInternet))

-- a family's number below 65536, in the order of the bytes of the machine that captured it: of the two orders the other
-- gives a greater number
unfoldable pub family_of : List ℕ → ℕ
family_of bytes = min (big_number 4 bytes) (little_number 4 bytes)

-- the number of a family: 2 is IPv4, and IPv6 is 10 in Linux, 24 in NetBSD and OpenBSD, 28 in FreeBSD and 30 in Darwin
abbrev pub network_of_family : ℕ → Result Network Reason
network_of_family family =
    if family == 2 then Ok V4
    else (if (family == 10) || (family == 24) || (family == 28) || (family == 30) then Ok V6 else Err NotInternet)

-- a packet behind the four bytes of its family's number
unfoldable pub loopback_of : List ℕ → Result (Network × List ℕ) Reason
loopback_of bytes =
    if nat_lt (length bytes) 4 then Err Cut
    else network_of_family (family_of bytes) >>= λ network. Ok (network, drop 4 bytes)

-- Ethernet is 1 (IEEE 802.3), Linux cooked 113 and 276; without a header are 12, 14 and 101, and of one version 228 and
-- 229; loopback is 0 and 108
unfoldable pub network_of : ℕ → List ℕ → Result (Network × List ℕ) Reason
network_of link bytes =
    if link == 1 then behind_type 12 14 bytes
    else (if link == 113 then behind_type 14 16 bytes
    else (if link == 276 then behind_type 0 20 bytes
    else (if (link == 12) || (link == 14) || (link == 101) then raw_of bytes
    else (if link == 228 then Ok (V4, bytes)
    else (if link == 229 then Ok (V6, bytes)
    else (if (link == 0) || (link == 108) then loopback_of bytes
    else Err UnknownLink))))))
