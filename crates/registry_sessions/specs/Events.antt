-- Many connections over one registry: what came in an order, and the records and datagrams in the order in which their
-- last byte came (RFC 5531 sections 9 and 11).
use Rattle.std.specs.Prelude.{◌≡◌, ℕ, ◌+◌, nat_eq, if◌then◌else◌, Bool, true, false, List, [], ◌∷◌, ◌++◌, ⊤}
use Rattle.std.specs.List.{flat_map}
use Rattle.rpc_record.specs.Marked.{Longest}
use Rattle.registry_callers.specs.declared.callers.Caller.{Caller}
use Rattle.registry_sessions.specs.declared.origin.Origin.{Origin}
use Rattle.registry_rows.specs.Ports.{udp}
use Rattle.registry_answer.specs.Views.{netid_of}
use Rattle.rpc_engine.specs.Served.{most_record}

-- ---- what came

-- An event at the registry's table of connections. Each connection has a number of its own, which no later one gets.
pub data Event : Type 0 where
  -- a connection began, from here
  Opens : (connection : ℕ) → (origin : Origin) → Event
  -- these bytes of a connection were taken
  Brings : (connection : ℕ) → (bytes : List ℕ) → Event
  -- these bytes of a connection were dropped: memory was refused for them, or a fault had come before
  Drops : (connection : ℕ) → (bytes : List ℕ) → Event
  -- a write of a connection took so many bytes of its output
  Took : (connection : ℕ) → (count : ℕ) → Event
  -- a connection ended, and what of its output no write had taken is dropped
  Ends : (connection : ℕ) → Event
  -- a datagram of a caller came
  Came : (caller : Caller) → (bytes : List ℕ) → Event

-- the bytes that an event brings of a connection
abbrev pub bytes_in : ℕ → Event → List ℕ
bytes_in i (Brings j bytes) = if nat_eq i j then bytes else []
bytes_in i _ = []

-- how many bytes of a connection's output a write took
abbrev pub count_in : ℕ → Event → ℕ
count_in i (Took j count) = if nat_eq i j then count else 0
count_in i _ = 0

-- whether a connection is open after an event, where this says whether it was before
abbrev pub opened_by : ℕ → Bool → Event → Bool
opened_by i was (Opens j origin) = if nat_eq i j then true else was
opened_by i was (Ends j) = if nat_eq i j then false else was
opened_by i was _ = was

-- the datagram of an event, and whose it is
abbrev pub datagram_in : Event → List (Caller × List ℕ)
datagram_in (Came caller bytes) = (caller, bytes) ∷ []
datagram_in _ = []

-- the bytes of a connection: those of its events, joined
abbrev pub brought : ℕ → List Event → List ℕ
brought i events = flat_map (bytes_in i) events

-- how many bytes of its output writes took
abbrev pub written : ℕ → List Event → ℕ
written i [] = 0
written i (e ∷ events) = count_in i e + written i events

-- whether it is open after them, where this says whether it was before
abbrev pub open_after : ℕ → Bool → List Event → Bool
open_after i was [] = was
open_after i was (e ∷ events) = open_after i (opened_by i was e) events

-- each connection that began with these events came from where this says
abbrev pub AreOriginsOf : (whence : ℕ → Origin) → List Event → Type 0
AreOriginsOf whence [] = ⊤
AreOriginsOf whence (Opens i origin ∷ events) = (whence i ≡ origin) × AreOriginsOf whence events
AreOriginsOf whence (_ ∷ events) = AreOriginsOf whence events

-- no connection of this number began with these events
abbrev pub NeverOpened : ℕ → List Event → Type 0
NeverOpened i [] = ⊤
NeverOpened i (Opens j origin ∷ events) = (nat_eq i j ≡ false) × NeverOpened i events
NeverOpened i (_ ∷ events) = NeverOpened i events

-- ---- the records, in the order in which their last byte came

-- a record of a connection, or a datagram
pub data Arrival : Type 0 where
  Record : (connection : ℕ) → (message : List ℕ) → Arrival
  Datagram : (caller : Caller) → (message : List ℕ) → Arrival

abbrev pub message_of : Arrival → List ℕ
message_of (Record i message) = message
message_of (Datagram caller message) = message

-- who sent it, where this says whence each connection came
abbrev pub caller_in : (whence : ℕ → Origin) → Arrival → Caller
caller_in whence (Record i message) = (whence i).caller
caller_in whence (Datagram caller message) = caller

-- the netid of the transport over which it came: datagrams are over UDP (RFC 5665 section 5.1)
abbrev pub netid_in : (whence : ℕ → Origin) → Arrival → List ℕ
netid_in whence (Record i message) = netid_of (whence i).transport
netid_in whence (Datagram caller message) = udp

-- the record, where it is this connection's
abbrev pub record_in : ℕ → Arrival → List (List ℕ)
record_in i (Record j message) = if nat_eq i j then message ∷ [] else []
record_in i (Datagram caller message) = []

abbrev pub arrived_in : Arrival → List (Caller × List ℕ)
arrived_in (Datagram caller message) = (caller, message) ∷ []
arrived_in (Record i message) = []

-- a connection's own records
abbrev pub records_of : ℕ → List Arrival → List (List ℕ)
records_of i arrivals = flat_map (record_in i) arrivals

-- With these events just these have arrived: of each connection the whole records of its bytes, those of the longest
-- front that is a stream of records within the limit, and the datagrams.
pub record HaveArrived (events : List Event) (arrivals : List Arrival) : Type 0 where
  pub records : (i : ℕ) → Longest most_record (records_of i arrivals) (brought i events)
  pub datagrams : flat_map arrived_in arrivals ≡ flat_map datagram_in events

-- All of them have arrived, in this order: at every moment, after some first events, just the first so many had.
pub record InOrder (events : List Event) (arrivals : List Arrival) : Type 0 where
  pub all : HaveArrived events arrivals
  pub each : (front rest : List Event) → events ≡ front ++ rest
      → (first : List Arrival) × ((others : List Arrival) × ((arrivals ≡ first ++ others) × HaveArrived front first))

-- Events have one order of arrivals.
abbrev pub OneOrder : Type 0
OneOrder = (events : List Event) (arrivals others : List Arrival) → InOrder events arrivals → InOrder events others
    → arrivals ≡ others
