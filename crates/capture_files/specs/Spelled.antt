-- Files of the classic format, spelled from their packets (draft-ietf-opsawg-pcap sections 4 and 5).
use Rattle.std.specs.Prelude.{◌≡◌, ℕ, ◌+◌, ◌*◌, ◌^◌, ◌<◌, ◌≤◌, List, [], ◌∷◌, ◌++◌, length, map, Bool, true, false}
use Rattle.std.specs.Prelude.{if◌then◌else◌, Some}
use Rattle.std.specs.List.{All}
use Rattle.byteorder.specs.Endian.{big_bytes, little_bytes}
use Rattle.capture_files.specs.declared.numbers.Order.{Order}
use Rattle.capture_files.specs.declared.numbers.Order.TheVariants.{Big, Little}
use Rattle.capture_files.specs.Limits.{most_packet}
use Rattle.capture_files.specs.Runs.{PacketView, IsCapture}

-- the lowest n bytes of a number, in this order
abbrev pub bytes_of : Order → (n x : ℕ) → List ℕ
bytes_of Big n x = big_bytes n x
bytes_of Little n x = little_bytes n x

-- a number of 16 bits, and what follows
abbrev pub half : Order → ℕ → List ℕ → List ℕ
half order x rest = bytes_of order 2 x ++ rest

-- a number of 32 bits, and what follows
abbrev pub word : Order → ℕ → List ℕ → List ℕ
word order x rest = bytes_of order 4 x ++ rest

-- What the header of a file says: its order of bytes, whether times are in nanoseconds, two numbers that are not used,
-- the length of a packet at most, the type of the link, and what stands above it in the same number (section 4).
pub record HeaderView : Type 0 where
  pub order : Order
  pub nanoseconds : Bool
  pub first_unused : ℕ
  pub second_unused : ℕ
  pub snapshot : ℕ
  pub link : ℕ
  pub above : ℕ

-- the number that begins a file with microseconds, and with nanoseconds (section 4)
abbrev pub magic : (nanoseconds : Bool) → ℕ
magic false = 0xa1b2c3d4
magic true = 0xa1b23c4d

-- a header: the number, version 2.4, and what it says (section 4); and what follows
abbrev pub header_bytes : HeaderView → List ℕ → List ℕ
header_bytes h rest =
    word h.order (magic h.nanoseconds) (half h.order 2 (half h.order 4 (word h.order h.first_unused
    (word h.order h.second_unused (word h.order h.snapshot (word h.order (h.above * 65536 + h.link) rest))))))

-- a packet as a record has it: seconds, and micro- or nanoseconds, its length on the link, and the bytes that were
-- captured (section 5)
pub record RecordView : Type 0 where
  pub seconds : ℕ
  pub fraction : ℕ
  pub original : ℕ
  pub content : List ℕ

-- a record: the time, the length of what was captured, that of the packet, and what was captured (section 5); and what
-- follows
abbrev pub record_bytes : Order → RecordView → List ℕ → List ℕ
record_bytes order r rest =
    word order r.seconds (word order r.fraction (word order (length r.content) (word order r.original
    (r.content ++ rest))))

-- records, one after another
abbrev pub records_bytes : Order → List RecordView → List ℕ
records_bytes order [] = []
records_bytes order (r ∷ rs) = record_bytes order r (records_bytes order rs)

-- a file: its header, and a record for each packet
abbrev pub spelled : HeaderView → List RecordView → List ℕ
spelled h rs = header_bytes h (records_bytes h.order rs)

-- the type of the link and what stands above it are of 16 bits each (section 4)
pub record IsHeader (h : HeaderView) : Type 0 where
  pub link_fits : h.link < 2 ^ 16
  pub above_fits : h.above < 2 ^ 16

-- the numbers of a record are of 32 bits, no more was captured than the packet had, and no more than is taken
pub record IsRecord (r : RecordView) : Type 0 where
  pub seconds_fit : r.seconds < 2 ^ 32
  pub fraction_fits : r.fraction < 2 ^ 32
  pub original_fits : r.original < 2 ^ 32
  pub captured : length r.content ≤ r.original
  pub taken : length r.content ≤ most_packet

-- the packet of a record: its link is that of the file, and its time counts the unit of the file
abbrev pub packet_of : HeaderView → RecordView → PacketView
packet_of h r = record {
  link = h.link;
  time = Some (r.seconds * (if h.nanoseconds then 1000000000 else 1000000) + r.fraction);
  resolution = if h.nanoseconds then 9 else 6;
  original = r.original;
  content = r.content;
}

-- Such a file has these packets.
abbrev pub SpelledFilesAreRead : Type 0
SpelledFilesAreRead = (h : HeaderView) (rs : List RecordView) → IsHeader h → All IsRecord rs
    → IsCapture (spelled h rs) (map (packet_of h) rs)

-- It has no others.
abbrev pub SpelledFilesHaveNoOthers : Type 0
SpelledFilesHaveNoOthers = (h : HeaderView) (rs : List RecordView) (ps : List PacketView) → IsHeader h
    → All IsRecord rs → IsCapture (spelled h rs) ps → ps ≡ map (packet_of h) rs
