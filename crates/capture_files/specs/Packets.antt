-- The blocks that have packets (draft-ietf-opsawg-pcapng sections 4.3 and 4.4).
use Rattle.std.specs.Prelude.{ℕ, ◌+◌, ◌-◌, ◌*◌, List, length, ◌||◌, nat_lt, ◌==◌, if◌then◌else◌}
use Rattle.std.specs.Prelude.{Option, Some, None, slice_get}
use Rattle.capture_files.specs.declared.captured.Interface.{Interface}
use Rattle.capture_files.specs.declared.numbers.Order.{Order}
use Rattle.capture_files.specs.declared.place.Place.TheVariants.{Passing}
use Rattle.capture_files.specs.declared.place.Step.{Step}
use Rattle.capture_files.specs.declared.place.Step.TheVariants.{Need, Packet, Refused}
use Rattle.capture_files.specs.declared.reason.CaptureReason.TheVariants.{BadLength, PacketTooLong, UnknownInterface}
use Rattle.capture_files.specs.Limits.{most_packet}
use Rattle.capture_files.specs.Numbers.{word_at}

-- the upper 32 bits of a time, and then the lower (section 4.3)
unfoldable pub time_at : Order → List ℕ → ℕ
time_at order bytes = word_at order 12 bytes * 4294967296 + word_at order 16 bytes

-- how many bytes of an enhanced packet were captured (section 4.3)
abbrev pub captured_length : Order → List ℕ → ℕ
captured_length order bytes = word_at order 20 bytes

-- how many bytes it had (section 4.3)
abbrev pub original_length : Order → List ℕ → ℕ
original_length order bytes = word_at order 24 bytes

-- the packet on this interface (section 4.3)
unfoldable pub packet_on : Order → ℕ → Interface → List ℕ → Step
packet_on order total interface bytes =
    if nat_lt (length bytes) (28 + captured_length order bytes) then Need (28 + captured_length order bytes)
    else Packet (Passing order None (total - 32 - captured_length order bytes) total) (record {
      link = interface.link;
      time = Some (time_at order bytes);
      resolution = interface.resolution;
      original = original_length order bytes;
      from = 28;
      size = captured_length order bytes;
    })

-- a packet's interface is one that its section has described (section 4.3)
abbrev pub packet_or_none : Order → ℕ → Option Interface → List ℕ → Step
packet_or_none order total None bytes = Refused UnknownInterface
packet_or_none order total (Some interface) bytes = packet_on order total interface bytes

-- type, length, interface, time, both lengths of the packet, and its bytes; padding and options are passed over
-- (section 4.3)
unfoldable pub packet_step : Order → ℕ → List Interface → List ℕ → Step
packet_step order total interfaces bytes =
    if nat_lt total 32 then Refused BadLength
    else (if nat_lt (length bytes) 28 then Need 28
    else (if nat_lt most_packet (captured_length order bytes) then Refused PacketTooLong
    else (if nat_lt (original_length order bytes) (captured_length order bytes)
    || nat_lt (total - 32) (captured_length order bytes)
    then Refused BadLength
    else packet_or_none order total (slice_get interfaces (word_at order 8 bytes)) bytes)))

-- how many bytes of a simple packet were captured: 0 stands for any number (sections 4.2 and 4.4)
abbrev pub simple_size : Interface → ℕ → ℕ
simple_size interface original =
    if (interface.snapshot == 0) || nat_lt original interface.snapshot then original else interface.snapshot

-- the packet on this interface (section 4.4)
unfoldable pub simple_on : Order → ℕ → Interface → List ℕ → Step
simple_on order total interface bytes =
    if nat_lt most_packet (simple_size interface (word_at order 8 bytes)) then Refused PacketTooLong
    else (if nat_lt (total - 16) (simple_size interface (word_at order 8 bytes)) then Refused BadLength
    else (if nat_lt (length bytes) (12 + simple_size interface (word_at order 8 bytes))
    then Need (12 + simple_size interface (word_at order 8 bytes))
    else Packet (Passing order None (total - 16 - simple_size interface (word_at order 8 bytes)) total) (record {
      link = interface.link;
      time = None;
      resolution = interface.resolution;
      original = word_at order 8 bytes;
      from = 12;
      size = simple_size interface (word_at order 8 bytes);
    })))

-- its interface is the first (section 4.4)
abbrev pub simple_or_none : Order → ℕ → Option Interface → List ℕ → Step
simple_or_none order total None bytes = Refused UnknownInterface
simple_or_none order total (Some interface) bytes = simple_on order total interface bytes

-- type, length, the length of the packet, and the bytes that were captured on the first interface (section 4.4)
unfoldable pub simple_step : Order → ℕ → List Interface → List ℕ → Step
simple_step order total interfaces bytes =
    if nat_lt total 16 then Refused BadLength
    else (if nat_lt (length bytes) 12 then Need 12
    else simple_or_none order total (slice_get interfaces 0) bytes)
