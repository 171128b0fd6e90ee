-- Segments of connections over TCP, and the records that they carry one way (RFC 9293 section 3.4, RFC 5531 section
-- 11).
use Rattle.std.specs.Prelude.{◌≡◌, ℕ, ◌⊎◌, List, [], ◌∷◌, ◌++◌}
use Rattle.std.specs.List.{AllByRecursion}
use Rattle.std.specs.declared.net.socket_addr.SocketAddr.{SocketAddr}
use Rattle.capture_files.specs.Runs as file
use Rattle.capture_packets.specs.Packet.{SegmentView, PacketView, Segment}
use Rattle.capture_packets.specs.Packets.{packet_of}
use Rattle.capture_records.specs.Carried.{Carries, IsPiece}
use Rattle.capture_records.specs.declared.told.Told.{Told}
use Rattle.capture_streams.specs.Segments.{Arrival}
use Rattle.oncrpc_capture.specs.Entries.{Entry, Message, Note, TooLong}
use Rattle.oncrpc_capture.specs.Nodes.{IsNode}
use Rattle.oncrpc_capture.specs.Notes.{told_name}

-- the segment that a packet carries, where it carries one
abbrev pub segments_of : PacketView → List SegmentView
segments_of (Segment s) = s ∷ []
segments_of _ = []

-- the segments that packets of a file carry, in their order
abbrev pub segments_in : List file.PacketView → List SegmentView
segments_in [] = []
segments_in (p ∷ ps) = segments_of (packet_of p.link p.content) ++ segments_in ps

-- A piece is of a segment that went from one node to another.
pub record IsPieceOf (from to : SocketAddr) (s : SegmentView) (a : Arrival) : Type 0 where
  pub from_is : IsNode s.from from
  pub to_is : IsNode s.to to
  pub piece : IsPiece s a

-- a piece is of one of these segments
abbrev pub IsOneOf : (from to : SocketAddr) → List SegmentView → Arrival → Type 0
IsOneOf from to [] a = ⊥
IsOneOf from to (s ∷ ss) a = IsPieceOf from to s a ⊎ IsOneOf from to ss a

-- A record stands in what segments gave that went from one node to another, byte after byte with no hole.
pub record IsCarried (from to : SocketAddr) (segments : List SegmentView) (r : List ℕ) : Type 0 where
  pub arrivals : List Arrival
  pub each : AllByRecursion (IsOneOf from to segments) arrivals
  pub carries : Carries arrivals r

-- a message stands in what was sent from and to the nodes that are told with it; what else is said is of bytes that no
-- message has, or of a header that no record has
abbrev pub IsHeard : List SegmentView → Entry → Type 0
IsHeard segments (Message seen way bytes) = IsCarried seen.from seen.to segments bytes
IsHeard segments (Note seen what count) = (t : Told) × (what ≡ told_name t)
IsHeard segments (TooLong seen) = Unit {0}
IsHeard segments _ = ⊥

-- so does each of several
abbrev pub AreHeard : List SegmentView → List Entry → Type 0
AreHeard segments entries = AllByRecursion (IsHeard segments) entries
