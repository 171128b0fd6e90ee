-- What connections have taken of segments.
use Rattle.std.specs.Prelude.{◌≡◌, ℕ, Bool, true, false, List, Option, None, Some, All}
use Rattle.std.specs.List.{AllByRecursion}
use Rattle.std.specs.declared.net.socket_addr.SocketAddr.{SocketAddr}
use Rattle.capture_packets.specs.Packet.{SegmentView}
use Rattle.capture_records.specs.Follows.{Has, IsPart}
use Rattle.capture_records.specs.declared.side.Side.{Side}
use Rattle.capture_records.specs.declared.step.Step.{Step}
use Rattle.capture_records.specs.declared.step.Step.TheVariants.{Record}
use Rattle.capture_streams.specs.Segments.{Arrival}
use Rattle.oncrpc_capture.specs.declared.flow.Flow.{Flow}
use Rattle.oncrpc_capture.specs.declared.flow.Found.{Found}
use Rattle.oncrpc_capture.specs.declared.flows.Flows.{Flows}
use Rattle.oncrpc_capture.specs.declared.pairs.Pair.{Pair}
use Rattle.oncrpc_capture.specs.Connections.{IsCarried, IsOneOf, IsPieceOf}

-- who sends, and to whom: the lower node or the higher
abbrev pub from_of : Pair → (up : Bool) → SocketAddr
from_of pair true = pair.low
from_of pair false = pair.high

abbrev pub to_of : Pair → (up : Bool) → SocketAddr
to_of pair true = pair.high
to_of pair false = pair.low

-- what a direction has taken are pieces of these segments
pub record SideFollows (from to : SocketAddr) (segments : List SegmentView) (side : Side) : Type 0 where
  pub arrivals : List Arrival
  pub each : AllByRecursion (IsOneOf from to segments) arrivals
  pub has : Has side arrivals

-- so do both of a connection
pub record FlowFollows (segments : List SegmentView) (f : Flow) : Type 0 where
  pub up : SideFollows f.pair.low f.pair.high segments f.up
  pub down : SideFollows f.pair.high f.pair.low segments f.down

-- and all connections
abbrev pub Follow : List SegmentView → Flows → Type 0
Follow segments flows = All (FlowFollows segments) flows.flows.items

-- pieces of this segment are of one of the others
abbrev pub Includes : SegmentView → List SegmentView → Type 0
Includes s segments = (from to : SocketAddr) (a : Arrival) → IsPieceOf from to s a → IsOneOf from to segments a

-- ---- one connection

-- no segment was taken
pub record IsNew (f : Flow) : Type 0 where
  pub follows : (segments : List SegmentView) → FlowFollows segments f

-- whatever segments were taken, no others are
pub record Keeps (old new : Flow) : Type 0 where
  pub keeps : (segments : List SegmentView) → FlowFollows segments old → FlowFollows segments new

-- these bytes are of one of the segments
abbrev pub ArePart : (from to : SocketAddr) → List SegmentView → (sequence : ℕ) → (bytes : List ℕ) → Type 0
ArePart from to segments sequence bytes = (a : Arrival) → IsPart sequence bytes a → IsOneOf from to segments a

-- bytes of one of the segments were taken
pub record Takes (old new : Flow) (pair : Pair) (up : Bool) (sequence : ℕ) (bytes : List ℕ) : Type 0 where
  pub takes : (segments : List SegmentView)
      → ArePart (from_of pair up) (to_of pair up) segments sequence bytes
      → FlowFollows segments old → FlowFollows segments new

-- a record that came is carried
abbrev pub IsStep : Step → (from to : SocketAddr) → List SegmentView → (r : List ℕ) → Type 0
IsStep Record from to segments r = IsCarried from to segments r
IsStep _ from to segments r = Unit {0}

-- what came of one of the two nodes
pub record Steps (old new : Flow) (up : Bool) (step : Step) (r : List ℕ) : Type 0 where
  pub pair : new.pair ≡ old.pair
  pub steps : (segments : List SegmentView) → FlowFollows segments old
      → FlowFollows segments new × IsStep step (from_of old.pair up) (to_of old.pair up) segments r

-- the same, where something came
abbrev pub IsFound : Option Found → List SegmentView → (r : List ℕ) → Type 0
IsFound None segments r = Unit {0}
IsFound (Some f) segments r = IsStep f.step f.from f.to segments r

pub record Finds (old new : Flow) (found : Option Found) (r : List ℕ) : Type 0 where
  pub finds : (segments : List SegmentView) → FlowFollows segments old
      → FlowFollows segments new × IsFound found segments r

-- ---- all connections

-- no segment was taken
pub record Begun (flows : Flows) : Type 0 where
  pub follow : (segments : List SegmentView) → Follow segments flows

-- whatever segments were taken, no others are
pub record KeepAll (old new : Flows) : Type 0 where
  pub keep : (segments : List SegmentView) → Follow segments old → Follow segments new

-- bytes of one of the segments were taken
pub record TakeAt (old new : Flows) (pair : Pair) (up : Bool) (sequence : ℕ) (bytes : List ℕ) : Type 0 where
  pub take : (segments : List SegmentView)
      → ArePart (from_of pair up) (to_of pair up) segments sequence bytes → Follow segments old → Follow segments new

-- what came of a direction, where something did
pub record FindAt (old new : Flows) (found : Option Found) (r : List ℕ) : Type 0 where
  pub find : (segments : List SegmentView) → Follow segments old
      → Follow segments new × IsFound found segments r
