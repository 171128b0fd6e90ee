-- What the packets of a file bring: of a datagram one message (RFC 768, RFC 5531 section 9), of segments of TCP records
-- that stand in what they gave (RFC 9293 section 3.4, RFC 5531 section 11), and a line of a packet that is not read.
use Rattle.std.specs.Prelude.{◌≡◌, ◌⊎◌, ℕ, zero, suc, ◌^◌, ◌<◌, ◌==◌, ◌||◌, Bool, true, false, List, [], ◌∷◌, ◌++◌}
use Rattle.std.specs.Prelude.{length}
use Rattle.std.specs.List.{list_any}
use Rattle.xdr_units.specs.Numbers.{word}
use Rattle.capture_files.specs.Runs.{capped}
use Rattle.capture_files.specs.Runs as file
use Rattle.capture_packets.specs.declared.reason.Reason.{Reason}
use Rattle.capture_packets.specs.Packet.{DatagramView, SegmentView, PacketView, Datagram, Segment, Other}
use Rattle.capture_packets.specs.Packets.{packet_of}
use Rattle.oncrpc_messages.specs.Messages.{SaysReply}
use Rattle.oncrpc_capture.specs.declared.seen.Seen.{Seen}
use Rattle.capture_records.specs.declared.told.Told.TheVariants.{Missing}
use Rattle.oncrpc_capture.specs.Connections.{AreHeard, segments_of}
use Rattle.oncrpc_capture.specs.Entries.{Entry, FileRefused, Message, Note, Unread}
use Rattle.oncrpc_capture.specs.Files.{FileEnding, Whole, Ceases, reason_name}
use Rattle.oncrpc_capture.specs.Nodes.{IsSeen}
use Rattle.oncrpc_capture.specs.Notes.{is_unread, told_name, why_unread}

-- no port is named, or the packet is from or to one that is
abbrev pub is_wanted : (ports : List ℕ) → (from to : ℕ) → Bool
is_wanted ports from to =
    (length ports == 0) || (list_any (λ (p : ℕ). p == from) ports || list_any (λ (p : ℕ). p == to) ports)

-- the bytes begin as a call of version 2 does: behind its xid come 0 and 2 (RFC 5531 section 9)
pub record BeginsCall (bytes : List ℕ) : Type 0 where
  pub xid : ℕ
  pub rest : List ℕ
  pub counted : xid < 2 ^ 32
  pub spelled : bytes ≡ word xid ++ (word 0 ++ (word 2 ++ rest))

-- a datagram is a message where ports are named, or where it begins as a call does
abbrev pub IsMessage : (ports : List ℕ) → DatagramView → Type 0
IsMessage ports d = (ports ≡ [] → ⊥) ⊎ BeginsCall d.content

-- the bytes say that they are a reply (RFC 5531 section 9)
abbrev pub SaysSome : (bytes : List ℕ) → Type 0
SaysSome bytes = (xid : ℕ) × SaysReply xid bytes

-- a message, or where the capture does not have its last bytes how many these are
abbrev pub IsToldBy : (missing : ℕ) → Seen → (content : List ℕ) → List Entry → Type 0
IsToldBy zero seen content entries = (way : ℕ) × (entries ≡ Message seen way content ∷ [])
IsToldBy (suc m) seen content entries = entries ≡ Note seen (told_name Missing) (suc m) ∷ []

-- a datagram is told, with its packet
abbrev pub IsTold : (frame : ℕ) → DatagramView → List Entry → Type 0
IsTold frame d entries = (seen : Seen) × IsSeen frame d.from d.to seen × IsToldBy d.missing seen d.content entries

-- What a datagram brings. One that is no message by itself is told only where it says that it is a reply: to a call
-- that was heard, which is not said here.
pub record BringsDatagram (ports : List ℕ) (frame : ℕ) (d : DatagramView) (entries : List Entry) : Type 0 where
  pub unwanted : is_wanted ports d.from.port d.to.port ≡ false → entries ≡ []
  pub message : is_wanted ports d.from.port d.to.port ≡ true → IsMessage ports d → IsTold frame d entries
  pub other : (entries ≡ []) ⊎ (IsTold frame d entries × (IsMessage ports d ⊎ SaysSome d.content))

-- What a segment brings, behind those before it in the file: nothing, where its ports are not wanted. Each message
-- stands in what segments gave that went from and to the nodes that are told with it.
pub record BringsSegment (ports : List ℕ) (earlier : List SegmentView) (s : SegmentView) (entries : List Entry)
    : Type 0 where
  pub unwanted : is_wanted ports s.from.port s.to.port ≡ false → entries ≡ []
  pub heard : AreHeard (earlier ++ s ∷ []) entries

-- what a packet brings that carries neither
abbrev pub BringsOther : (is_told : Bool) → (frame : ℕ) → Reason → List Entry → Type 0
BringsOther true frame why entries = (time : ℕ) × (entries ≡ Unread frame time (why_unread why) ∷ [])
BringsOther false frame why entries = entries ≡ []

-- what a packet brings, by what it carries, and by the segments before it
abbrev pub BringsBy : (ports : List ℕ) → (earlier : List SegmentView) → (frame : ℕ) → PacketView → List Entry → Type 0
BringsBy ports earlier frame (Datagram d) entries = BringsDatagram ports frame d entries
BringsBy ports earlier frame (Segment s) entries = BringsSegment ports earlier s entries
BringsBy ports earlier frame (Other why) entries = BringsOther (is_unread why) frame why entries

-- what the packet of this number brings
abbrev pub Brings : (ports : List ℕ) → (earlier : List SegmentView) → (frame : ℕ) → file.PacketView → List Entry
    → Type 0
Brings ports earlier frame p entries = BringsBy ports earlier frame (packet_of p.link p.content) entries

-- what packets bring, one after another, of which the first has this number and stands behind these segments
unfoldable pub BringAll : (ports : List ℕ) → (earlier : List SegmentView) → (number : ℕ) → List file.PacketView
    → List Entry → Type 0
BringAll ports earlier number [] entries = entries ≡ []
BringAll ports earlier number (p ∷ ps) entries =
    (first : List Entry) × (rest : List Entry) × Brings ports earlier (capped number) p first
    × BringAll ports (earlier ++ segments_of (packet_of p.link p.content)) (suc number) ps rest
    × (entries ≡ first ++ rest)

-- what comes of the end of a file: why it is refused, where it is
abbrev pub of_ending : FileEnding → List Entry
of_ending Whole = []
of_ending (Ceases why at) = FileRefused (reason_name why) at ∷ []
