-- The run of the registry along the records of many connections and datagrams, in the order in which their last byte
-- came (RFC 5531 sections 9 and 11, RFC 1833 sections 2 and 3).
use Rattle.std.specs.Prelude.{◌≡◌, ℕ, ◌≤◌, nat_eq, if◌then◌else◌, Bool, false, List, [], ◌∷◌, ◌++◌, length, drop}
use Rattle.std.specs.Prelude.{Option, Some, is_some}
use Rattle.rpc_record.specs.declared.fault.RecordFault.TheVariants as flaw
use Rattle.rpc_record.specs.Marked.{normal}
use Rattle.rpc_record.specs.Reading.{IsInside, TooLongAt, capped}
use Rattle.registry_rows.specs.Rows.{Row}
use Rattle.registry_sessions.specs.declared.origin.Origin.{Origin}
use Rattle.registry_callers.specs.From.{AnswerFrom}
use Rattle.rpc_engine.specs.Run.{listed}
use Rattle.rpc_engine.specs.Served.{most_record}
use Rattle.registry_sessions.specs.declared.fault.SessionFault.{SessionFault}
use Rattle.registry_sessions.specs.declared.fault.SessionFault.TheVariants as fault
use Rattle.registry_sessions.specs.declared.session.Session.{Session}
use Rattle.registry_sessions.specs.Represents.{output_of, fault_in}
use Rattle.registry_sessions.specs.Events.{Event, Arrival, Record, Datagram, InOrder, AreOriginsOf, brought, written}
use Rattle.registry_sessions.specs.Events.{open_after, message_of, netid_in, caller_in, records_of}

-- Each is answered by the rows that the one before left, and for each memory is refused or not: the rows in the end,
-- and what is sent for each, silence or one reply. `whence` says whence each connection came.
abbrev pub MergedRun : (whence : ℕ → Origin) → List Row → List Arrival → (refusals : List Bool) → (new : List Row)
    → (sent : List (Option (List ℕ))) → Type 0
MergedRun whence rows [] [] new [] = new ≡ rows
MergedRun whence rows (a ∷ rest) (y ∷ ys) new (s ∷ more) =
    (mid : List Row) × (AnswerFrom (caller_in whence a) rows (netid_in whence a) (message_of a) y mid s
    × MergedRun whence mid rest ys new more)
MergedRun whence rows _ _ new _ = ⊥

-- what was sent for an arrival, where it is a record of this connection
abbrev pub reply_in : ℕ → Arrival → Option (List ℕ) → List (List ℕ)
reply_in i (Record j message) s = if nat_eq i j then listed s else []
reply_in i (Datagram caller message) s = []

-- a connection's replies: those to its own records
abbrev pub replies_of : ℕ → List Arrival → List (Option (List ℕ)) → List (List ℕ)
replies_of i (a ∷ rest) (s ∷ more) = reply_in i a s ++ replies_of i rest more
replies_of i _ _ = []

-- what was sent for an arrival, where it is a datagram
abbrev pub sent_in : Arrival → Option (List ℕ) → List (List ℕ)
sent_in (Datagram caller message) s = listed s
sent_in (Record i message) s = []

-- the datagrams that are sent: the replies to those that came
abbrev pub sent_of : List Arrival → List (Option (List ℕ)) → List (List ℕ)
sent_of (a ∷ rest) (s ∷ more) = sent_in a s ++ sent_of rest more
sent_of _ _ = []

-- What a fault says of the records of a connection and of its bytes. `TooLong`: behind these records a header passes
-- the limit. `Truncated`: they end inside a record. `NoMemory`: those that it came with are none of these.
abbrev pub FlawedIn : List (List ℕ) → SessionFault → List ℕ → Type 0
FlawedIn rs (fault.Record (flaw.TooLong at)) bytes = TooLongAt most_record rs at bytes
FlawedIn rs (fault.Record (flaw.Truncated at)) bytes = (at ≡ capped (length bytes)) × IsInside most_record rs bytes
FlawedIn rs fault.NoMemory bytes = Unit {0}
FlawedIn rs _ bytes = ⊥

-- The rows are those of the run along the records and datagrams in the order in which their last byte came, each
-- answered by who sent it: whoever began its connection, or whose datagram it is. Just the
-- connections that began and did not end are open. The output of each is what writes have not taken of its replies as
-- fragments, writes took no more than these, and the datagrams sent are the replies to those that came. Where a
-- connection has a fault, it says what stands in its bytes.
pub record Interleaves (rows : List Row) (events : List Event) (new : List Row) (open_at : ℕ → Option Session)
    (sent : List (List ℕ)) : Type 0 where
  pub arrivals : List Arrival
  pub refusals : List Bool
  pub answers : List (Option (List ℕ))
  pub whence : ℕ → Origin
  pub origins : AreOriginsOf whence events
  pub order : InOrder events arrivals
  pub run : MergedRun whence rows arrivals refusals new answers
  pub opened : (i : ℕ) → is_some (open_at i) ≡ open_after i false events
  pub few : (i : ℕ) → written i events ≤ length (normal (replies_of i arrivals answers))
  pub outputs : (i : ℕ) (s : Session) → open_at i ≡ Some s
      → output_of s ≡ drop (written i events) (normal (replies_of i arrivals answers))
  pub faults : (i : ℕ) (s : Session) (f : SessionFault) → open_at i ≡ Some s → fault_in s ≡ Some f
      → FlawedIn (records_of i arrivals) f (brought i events)
  pub datagrams : sent ≡ sent_of arrivals answers
