-- Where what a packet carries stands: in the packet.
use Rattle.std.specs.Prelude.{◌≡◌, ℕ, List, ◌++◌}
use Rattle.capture_packets.specs.Packet.{PacketView, Datagram, Segment, Other}
use Rattle.capture_packets.specs.Packets.{packet_of}

-- The part stands in the whole.
pub record IsPart (part whole : List ℕ) : Type 0 where
  pub before : List ℕ
  pub after : List ℕ
  pub spelled : whole ≡ before ++ (part ++ after)

-- the addresses and the data stand in the packet
abbrev pub Lies : PacketView → List ℕ → Type 0
Lies (Datagram d) bytes = IsPart d.from.address bytes × IsPart d.to.address bytes × IsPart d.content bytes
Lies (Segment s) bytes = IsPart s.from.address bytes × IsPart s.to.address bytes × IsPart s.content bytes
Lies (Other reason) bytes = Unit {0}

-- so it is of each packet of each link
abbrev pub AllLie : Type 0
AllLie = (link : ℕ) (bytes : List ℕ) → Lies (packet_of link bytes) bytes
