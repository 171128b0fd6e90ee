-- Files of captured packets: units one after another, and the packets that they have (draft-ietf-opsawg-pcap,
-- draft-ietf-opsawg-pcapng section 3).
use Rattle.std.specs.Prelude.{◌≡◌, ℕ, zero, suc, ◌-◌, ◌^◌, ◌<◌, ◌≤◌, min, List, [], ◌∷◌, ◌++◌, length, take, drop}
use Rattle.std.specs.Prelude.{Option}
use Rattle.std.specs.List.{concat}
use Rattle.capture_files.specs.declared.captured.Found.{Found}
use Rattle.capture_files.specs.declared.captured.Interface.{Interface}
use Rattle.capture_files.specs.declared.place.Place.{Place}
use Rattle.capture_files.specs.declared.place.Place.TheVariants.{Start, Record, Block, Passing}
use Rattle.capture_files.specs.declared.place.Step.{Step}
use Rattle.capture_files.specs.declared.place.Step.TheVariants.{Need, Moved, Section, Described, Packet, Refused}
use Rattle.capture_files.specs.declared.reason.CaptureReason.{CaptureReason}
use Rattle.capture_files.specs.Steps.{step_of}

-- a packet: the type of its link, its time in units of a resolution, its length on the link, and what was captured
pub record PacketView : Type 0 where
  pub link : ℕ
  pub time : Option ℕ
  pub resolution : ℕ
  pub original : ℕ
  pub content : List ℕ

-- what comes next in a file, and the interfaces that its section has described
pub record StateView : Type 0 where
  pub place : Place
  pub interfaces : List Interface

-- before the first byte
abbrev pub beginning : StateView
beginning = record { place = Start; interfaces = [] }

-- what the bytes are that come next
abbrev pub step_at : StateView → List ℕ → Step
step_at s bytes = step_of s.place s.interfaces bytes

-- the step is one behind a whole unit
abbrev pub IsWhole : Step → Type 0
IsWhole (Need n) = ⊥
IsWhole (Refused reason) = ⊥
IsWhole _ = Unit {0}

-- how many bytes of a unit are looked at first: none has fewer
abbrev pub least_unit : ℕ
least_unit = 4

-- The first n bytes are looked at, and then each time as many as are asked for, until so many are asked for.
abbrev pub Asks : StateView → ℕ → List ℕ → ℕ → List ℕ → Type 0
Asks s n [] need bytes = n ≡ need
Asks s n (m ∷ asked) need bytes =
    (n ≤ length bytes) × ((step_at s (take n bytes) ≡ Need m) × Asks s m asked need bytes)

-- The bytes are as many as are asked for, and a unit.
pub record IsGathered (s : StateView) (bytes : List ℕ) : Type 0 where
  pub asked : List ℕ
  pub asks : Asks s least_unit asked (length bytes) bytes
  pub whole : IsWhole (step_at s bytes)

-- how many bytes are passed over at this place
abbrev pub left_of : Place → ℕ
left_of (Passing order interface left total) = left
left_of _ = 0

-- Where bytes are passed over, any of them are a unit; elsewhere a unit is what is gathered.
abbrev pub IsUnitOf : ℕ → StateView → List ℕ → Type 0
IsUnitOf zero s bytes = IsGathered s bytes
IsUnitOf (suc left) s bytes = IsWhole (step_at s bytes) × (length bytes ≤ suc left)

-- the bytes are the unit that comes next
abbrev pub IsUnit : StateView → List ℕ → Type 0
IsUnit s bytes = IsUnitOf (left_of s.place) s bytes

-- where a unit leads
abbrev pub behind : StateView → Step → StateView
behind s (Moved place) = record { place = place; interfaces = s.interfaces }
behind s (Section place) = record { place = place; interfaces = [] }
behind s (Described place interface) = record { place = place; interfaces = s.interfaces ++ interface ∷ [] }
behind s (Packet place found) = record { place = place; interfaces = s.interfaces }
behind s _ = s

-- the packet that stands in a unit
abbrev pub packet_in : Found → List ℕ → PacketView
packet_in found unit = record {
  link = found.link;
  time = found.time;
  resolution = found.resolution;
  original = found.original;
  content = take found.size (drop found.from unit);
}

-- the packets that a unit has: one or none
abbrev pub packets_in : Step → List ℕ → List PacketView
packets_in (Packet place found) unit = packet_in found unit ∷ []
packets_in _ unit = []

-- the units lead from one state to another, and have these packets
abbrev pub Leads : StateView → List (List ℕ) → List PacketView → StateView → Type 0
Leads s [] ps t = (ps ≡ []) × (t ≡ s)
Leads s (unit ∷ units) ps t =
    IsUnit s unit × ((later : List PacketView) × (Leads (behind s (step_at s unit)) units later t
    × (ps ≡ packets_in (step_at s unit) unit ++ later)))

-- The bytes are whole units from the start of a file, with these packets, and lead to this state.
pub record Front (bytes : List ℕ) (ps : List PacketView) (s : StateView) : Type 0 where
  pub units : List (List ℕ)
  pub joined : bytes ≡ concat units
  pub leads : Leads beginning units ps s

-- a file may end before a record or a block
abbrev pub MayEnd : Place → Type 0
MayEnd (Record file) = Unit {0}
MayEnd (Block order) = Unit {0}
MayEnd _ = ⊥

-- The bytes are a file with these packets.
pub record IsCapture (bytes : List ℕ) (ps : List PacketView) : Type 0 where
  pub state : StateView
  pub front : Front bytes ps state
  pub ends : MayEnd state.place

-- a place, where 2^64 - 1 stands for every greater one
abbrev pub capped : ℕ → ℕ
capped n = min n (2 ^ 64 - 1)

-- The bytes begin with whole units with these packets, and at this place, behind them, bytes are looked at that are no
-- unit, as this step says.
pub record RefusedAt (at : ℕ) (bytes : List ℕ) (ps : List PacketView) (step : Step) : Type 0 where
  pub whole : List ℕ
  pub unit : List ℕ
  pub more : List ℕ
  pub state : StateView
  pub front : Front whole ps state
  pub spelled : bytes ≡ whole ++ (unit ++ more)
  pub asked : List ℕ
  pub asks : Asks state least_unit asked (length unit) unit
  pub place : at ≡ capped (length whole)
  pub refused : step_at state unit ≡ step

-- The bytes begin with whole units with these packets, and inside of the next, at this place, the file was told to end.
pub record CutAt (at : ℕ) (bytes : List ℕ) (ps : List PacketView) : Type 0 where
  pub whole : List ℕ
  pub unit : List ℕ
  pub more : List ℕ
  pub state : StateView
  pub front : Front whole ps state
  pub spelled : bytes ≡ whole ++ (unit ++ more)
  pub need : ℕ
  pub asked : List ℕ
  pub asks : Asks state least_unit asked need unit
  pub place : at ≡ capped (length whole)
  pub short : length unit < need
  pub inside : MayEnd state.place → 0 < length unit

-- A file has one list of packets.
abbrev pub OneReading : Type 0
OneReading = (bytes : List ℕ) (ps qs : List PacketView) → IsCapture bytes ps → IsCapture bytes qs → ps ≡ qs

-- No file is refused for what its bytes say, nor is a beginning of one.
abbrev pub NothingIsRefused : Type 0
NothingIsRefused = (at : ℕ) (bytes later : List ℕ) (ps qs : List PacketView) (why : CaptureReason)
    → IsCapture (bytes ++ later) ps → RefusedAt at bytes qs (Refused why) → ⊥

-- No file is cut: it does not end inside of a unit.
abbrev pub NothingIsCut : Type 0
NothingIsCut = (at : ℕ) (bytes : List ℕ) (ps qs : List PacketView) (cut : CutAt at bytes qs) → cut.more ≡ []
    → IsCapture bytes ps → ⊥
