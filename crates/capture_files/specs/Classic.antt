-- The header and the records of the classic format (draft-ietf-opsawg-pcap sections 4 and 5).
use Rattle.std.specs.Prelude.{ℕ, ◌+◌, ◌*◌, ◌%◌, List, length, Bool, not, ◌||◌, nat_lt, ◌==◌, if◌then◌else◌, Some}
use Rattle.capture_files.specs.declared.numbers.Order.{Order}
use Rattle.capture_files.specs.declared.place.Classic.{Classic}
use Rattle.capture_files.specs.declared.place.Place.TheVariants.{Record}
use Rattle.capture_files.specs.declared.place.Step.{Step}
use Rattle.capture_files.specs.declared.place.Step.TheVariants.{Need, Moved, Packet, Refused}
use Rattle.capture_files.specs.declared.reason.CaptureReason.TheVariants.{UnknownVersion, BadLength, PacketTooLong}
use Rattle.capture_files.specs.Limits.{most_packet}
use Rattle.capture_files.specs.Numbers.{half_at, word_at}

-- magic number, version 2.4, two numbers that are not used, the length of a packet at most, and the type of the link in
-- the lower half of the last (section 4)
unfoldable pub header_step : Order → Bool → List ℕ → Step
header_step order nanoseconds bytes =
    if nat_lt (length bytes) 24 then Need 24
    else (if not (half_at order 4 bytes == 2) || not (half_at order 6 bytes == 4) then Refused UnknownVersion
    else Moved (Record (record {
      order = order;
      nanoseconds = nanoseconds;
      link = word_at order 20 bytes % 65536;
    })))

-- seconds, and then microseconds or nanoseconds (section 5)
unfoldable pub time_of : Classic → List ℕ → ℕ
time_of file bytes =
    word_at file.order 0 bytes * (if file.nanoseconds then 1000000000 else 1000000) + word_at file.order 4 bytes

-- how many bytes were captured (section 5)
abbrev pub captured_length : Classic → List ℕ → ℕ
captured_length file bytes = word_at file.order 8 bytes

-- how many bytes the packet had (section 5)
abbrev pub original_length : Classic → List ℕ → ℕ
original_length file bytes = word_at file.order 12 bytes

-- a record: the time, both lengths, of which the first is no greater than the second, and the bytes (section 5)
unfoldable pub record_step : Classic → List ℕ → Step
record_step file bytes =
    if nat_lt (length bytes) 16 then Need 16
    else (if nat_lt most_packet (captured_length file bytes) then Refused PacketTooLong
    else (if nat_lt (original_length file bytes) (captured_length file bytes) then Refused BadLength
    else (if nat_lt (length bytes) (16 + captured_length file bytes) then Need (16 + captured_length file bytes)
    else Packet (Record file) (record {
      link = file.link;
      time = Some (time_of file bytes);
      resolution = if file.nanoseconds then 9 else 6;
      original = original_length file bytes;
      from = 16;
      size = captured_length file bytes;
    }))))
