-- Files of captured packets, byte by byte.
use Rattle.std.specs.Prelude.{ℕ, List, [], ◌∷◌, ◌++◌, false, Some}
use Rattle.capture_files.specs.declared.numbers.Order.TheVariants.{Little}
use Rattle.capture_files.specs.Runs.{PacketView}
use Rattle.capture_files.specs.Spelled.{HeaderView, RecordView}

-- a header of the classic format, the lowest byte first: microseconds, version 2.4, and Ethernet
abbrev pub classic_header : List ℕ
classic_header =
    212 ∷ 195 ∷ 178 ∷ 161 ∷ 2 ∷ 0 ∷ 4 ∷ 0 ∷ 0 ∷ 0 ∷ 0 ∷ 0 ∷ 0 ∷ 0 ∷ 0 ∷ 0 ∷ 0 ∷ 0 ∷ 4 ∷ 0 ∷ 1 ∷ 0 ∷ 0 ∷ 0 ∷ []

-- a record after 1 second and 2 microseconds, with 3 bytes of a packet of 5
abbrev pub classic_record : List ℕ
classic_record =
    1 ∷ 0 ∷ 0 ∷ 0 ∷ 2 ∷ 0 ∷ 0 ∷ 0 ∷ 3 ∷ 0 ∷ 0 ∷ 0 ∷ 5 ∷ 0 ∷ 0 ∷ 0 ∷ 7 ∷ 8 ∷ 9 ∷ []

abbrev pub classic_file : List ℕ
classic_file = classic_header ++ classic_record

abbrev pub classic_packet : PacketView
classic_packet =
    record { link = 1; time = Some 1000002; resolution = 6; original = 5; content = 7 ∷ 8 ∷ 9 ∷ [] }

-- what that header and that record say
abbrev pub classic_view : HeaderView
classic_view = record {
  order = Little;
  nanoseconds = false;
  first_unused = 0;
  second_unused = 0;
  snapshot = 262144;
  link = 1;
  above = 0;
}

abbrev pub record_view : RecordView
record_view = record { seconds = 1; fraction = 2; original = 5; content = 7 ∷ 8 ∷ 9 ∷ [] }

-- a section of pcapng, the highest byte first, of an unknown length, and its block's length once more
abbrev pub section_head : List ℕ
section_head =
    10 ∷ 13 ∷ 13 ∷ 10 ∷ 0 ∷ 0 ∷ 0 ∷ 28 ∷ 26 ∷ 43 ∷ 60 ∷ 77 ∷
    0 ∷ 1 ∷ 0 ∷ 0 ∷ 255 ∷ 255 ∷ 255 ∷ 255 ∷ 255 ∷ 255 ∷ 255 ∷ 255 ∷ []

abbrev pub section_end : List ℕ
section_end = 0 ∷ 0 ∷ 0 ∷ 28 ∷ []

-- an interface without options, on which packets of IP are captured
abbrev pub interface_head : List ℕ
interface_head =
    0 ∷ 0 ∷ 0 ∷ 1 ∷ 0 ∷ 0 ∷ 0 ∷ 20 ∷ 0 ∷ 101 ∷ 0 ∷ 0 ∷ 0 ∷ 0 ∷ 0 ∷ 64 ∷ []

abbrev pub interface_end : List ℕ
interface_end = 0 ∷ 0 ∷ 0 ∷ 20 ∷ []

-- an enhanced packet of 3 bytes at 2^32 + 2 microseconds, a byte of padding, and the block's length once more
abbrev pub packet_head : List ℕ
packet_head =
    0 ∷ 0 ∷ 0 ∷ 6 ∷ 0 ∷ 0 ∷ 0 ∷ 36 ∷ 0 ∷ 0 ∷ 0 ∷ 0 ∷ 0 ∷ 0 ∷ 0 ∷ 1 ∷ 0 ∷ 0 ∷ 0 ∷ 2 ∷ 0 ∷ 0 ∷ 0 ∷ 3 ∷
    0 ∷ 0 ∷ 0 ∷ 3 ∷ 7 ∷ 8 ∷ 9 ∷ []

abbrev pub packet_padding : List ℕ
packet_padding = 0 ∷ []

abbrev pub packet_end : List ℕ
packet_end = 0 ∷ 0 ∷ 0 ∷ 36 ∷ []

abbrev pub block_file : List ℕ
block_file =
    section_head ++ section_end ++ interface_head ++ interface_end ++ packet_head ++ packet_padding ++ packet_end

abbrev pub block_packet : PacketView
block_packet =
    record { link = 101; time = Some 4294967298; resolution = 6; original = 3; content = 7 ∷ 8 ∷ 9 ∷ [] }
