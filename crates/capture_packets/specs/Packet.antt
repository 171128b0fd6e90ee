-- What packets carry, without where it lies in memory.
use Rattle.std.specs.Prelude.{ℕ, Bool, List}
use Rattle.capture_packets.specs.declared.reason.Reason.{Reason}

-- the addresses, the protocol's number, how many bytes follow the headers of an internet packet, and those of them that
-- were captured (RFC 791 section 3.1, RFC 8200 section 3)
pub record CarriedView : Type 0 where
  pub from : List ℕ
  pub to : List ℕ
  pub protocol : ℕ
  pub size : ℕ
  pub payload : List ℕ

-- an address and a port
pub record EndpointView : Type 0 where
  pub address : List ℕ
  pub port : ℕ

-- a datagram of UDP, of whose data the last bytes may not have been captured (RFC 768)
pub record DatagramView : Type 0 where
  pub from : EndpointView
  pub to : EndpointView
  pub content : List ℕ
  pub missing : ℕ

-- the control bits that begin and end a connection (RFC 9293 section 3.1)
pub record FlagsView : Type 0 where
  pub fin : Bool
  pub syn : Bool
  pub reset : Bool

-- a segment of TCP, of whose data the last bytes may not have been captured (RFC 9293 section 3.1)
pub record SegmentView : Type 0 where
  pub from : EndpointView
  pub to : EndpointView
  pub sequence : ℕ
  pub flags : FlagsView
  pub content : List ℕ
  pub missing : ℕ

-- what a packet carries, or why it carries neither
pub data PacketView : Type 0 where
  Datagram : DatagramView → PacketView
  Segment : SegmentView → PacketView
  Other : Reason → PacketView
