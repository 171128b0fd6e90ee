-- What a table of sessions over one registry has done: its events, one step of it, and the law of each event.
use Rattle.std.specs.Prelude.{◌≡◌, ◌≢◌, ℕ, ◌≤◌, ◌<◌, nat_eq, if◌then◌else◌, Bool, false, List, [], ◌∷◌, ◌++◌}
use Rattle.std.specs.Prelude.{length, take, Option, Some, None, Result, Ok, Err, is_some}
use Rattle.std.specs.HashMap as hash_map
use Rattle.rpc_record.specs.declared.fault.RecordFault.TheVariants as flaw
use Rattle.rpc_record.specs.Marked.{normal}
use Rattle.registry_rows.specs.Rows.{Row}
use Rattle.registry_answer.specs.declared.answering.Appended.{Appended}
use Rattle.registry_answer.specs.declared.answering.Appended.TheVariants as appended
use Rattle.rpc_message.specs.Heads.{accepted}
use Rattle.rpc_message.specs.Message.{SystemErr}
use Rattle.rpc_message.specs.Spelling.{reply}
use Rattle.registry_sessions.specs.declared.fault.SessionFault.{SessionFault}
use Rattle.registry_sessions.specs.declared.fault.SessionFault.TheVariants as fault
use Rattle.registry_sessions.specs.declared.fault.Taken.{Taken}
use Rattle.registry_sessions.specs.declared.fault.Taken.TheVariants as taken
use Rattle.registry_sessions.specs.declared.session.Session.{Session}
use Rattle.registry_sessions.specs.declared.table.SessionTable.{SessionTable}
use Rattle.registry_sessions.specs.declared.origin.Origin.{Origin}
use Rattle.registry_sessions.specs.Represents.{HasRead, Holds, origin_of}
use Rattle.registry_sessions.specs.Events.{Event, Brings, Drops, Arrival, InOrder, AreOriginsOf, NeverOpened}
use Rattle.registry_sessions.specs.Events.{brought, written, open_after, records_of}
use Rattle.registry_sessions.specs.Interleaved.{MergedRun, FlawedIn, replies_of, sent_of}

-- the sessions by the numbers of their connections; a connection that has ended and one that has not begun have none
abbrev pub Sessions : Type 0
Sessions = ℕ → Option Session

-- the sessions with this one, or none, at this number
abbrev pub put : Sessions → ℕ → Option Session → Sessions
put open_at i s = λ j. if nat_eq j i then s else open_at j

-- A session has read these bytes and answered these records, or has a fault, which says what stands in them; and its
-- replies were these, of which writes took so many bytes.
pub record StandsFor (s : Session) (bytes : List ℕ) (rs replies : List (List ℕ)) (count : ℕ) : Type 0 where
  pub reads : s.fault ≡ None → HasRead s bytes rs
  pub flawed : (f : SessionFault) → s.fault ≡ Some f → FlawedIn rs f bytes
  pub holds : Holds s replies count

-- What sessions over one registry have done with these events. Each stands for what came and went of its connection,
-- and the numbers from `next` on were given to none.
pub record Progress (rows : List Row) (events : List Event) (new : List Row) (open_at : Sessions) (next : ℕ)
    (sent : List (List ℕ)) : Type 0 where
  pub arrivals : List Arrival
  pub refusals : List Bool
  pub answers : List (Option (List ℕ))
  pub whence : ℕ → Origin
  pub origins : AreOriginsOf whence events
  pub order : InOrder events arrivals
  pub run : MergedRun whence rows arrivals refusals new answers
  pub opened : (i : ℕ) → is_some (open_at i) ≡ open_after i false events
  pub few : (i : ℕ) → written i events ≤ length (normal (replies_of i arrivals answers))
  pub each : (i : ℕ) (s : Session) → open_at i ≡ Some s
      → StandsFor s (brought i events) (records_of i arrivals) (replies_of i arrivals answers) (written i events)
  pub came : (i : ℕ) (s : Session) → open_at i ≡ Some s → origin_of s ≡ whence i
  pub below : (i : ℕ) (s : Session) → open_at i ≡ Some s → i < next
  pub fresh : (i : ℕ) → next ≤ i → (brought i events ≡ []) × (written i events ≡ 0)
  pub unopened : (i : ℕ) → next ≤ i → NeverOpened i events
  pub datagrams : sent ≡ sent_of arrivals answers

-- the session of a connection
abbrev pub session_at : SessionTable → Sessions
session_at table i = hash_map.get nat_eq table.sessions i

-- the number of the connection to come
abbrev pub next_of : SessionTable → ℕ
next_of table = table.next

-- how many connections are open
abbrev pub count_of : SessionTable → ℕ
count_of table = hash_map.hash_map_len table.sessions

-- how many may be
abbrev pub most_of : SessionTable → ℕ
most_of table = table.most

-- with more bytes of output than these a connection takes nothing
abbrev pub bound_in : SessionTable → ℕ
bound_in table = table.bound

-- what a table may hold is as it was
abbrev pub SameLimits : SessionTable → SessionTable → Type 0
SameLimits old new = (most_of new ≡ most_of old) × (bound_in new ≡ bound_in old)

-- A table has done these events over a registry that had these rows, and sent these datagrams.
abbrev pub HasDone : List Row → List Event → List Row → SessionTable → List (List ℕ) → Type 0
HasDone rows events new table sent = Progress rows events new (session_at table) (next_of table) sent

-- Whatever a table has done over a registry, it has done these events too, and sent these datagrams.
abbrev pub Proceeds : SessionTable → SessionTable → List Row → List Row → List Event → List (List ℕ) → Type 0
Proceeds old new mid after more said = (rows : List Row) (events : List Event) (sent : List (List ℕ))
    → HasDone rows events mid old sent → HasDone rows (events ++ more) after new (sent ++ said)

-- the sessions are as they were, and so is what the table may hold
abbrev pub SameSessions : SessionTable → SessionTable → Type 0
SameSessions old new = ((j : ℕ) → session_at new j ≡ session_at old j) × SameLimits old new

-- The session at this number became another, and all others are as they were.
pub record Steps (old new : SessionTable) (i : ℕ) (step : Session → Session → Type 0) : Type 0 where
  pub before : Session
  pub after : Session
  pub was : session_at old i ≡ Some before
  pub is : session_at new i ≡ Some after
  pub others : (j : ℕ) → j ≢ i → session_at new j ≡ session_at old j
  pub steps : step before after
  pub limits : SameLimits old new

-- There is a session of this origin at this number now, which has read nothing and has no replies. The number is the
-- next, which no connection has had. All others are as they were.
pub record Starts (old new : SessionTable) (i : ℕ) (origin : Origin) : Type 0 where
  pub number : i ≡ next_of old
  pub session : Session
  pub is : session_at new i ≡ Some session
  pub others : (j : ℕ) → j ≢ i → session_at new j ≡ session_at old j
  pub of : origin_of session ≡ origin
  pub reads : HasRead session [] []
  pub holds : Holds session [] 0
  pub limits : SameLimits old new

-- There is no session at this number any more, and all others are as they were.
pub record Stops (old new : SessionTable) (i : ℕ) : Type 0 where
  pub none : session_at new i ≡ None
  pub others : (j : ℕ) → j ≢ i → session_at new j ≡ session_at old j
  pub limits : SameLimits old new

-- what is sent for a datagram: nothing, what stands in the buffer, or the SYSTEM_ERR reply to this xid
abbrev pub said_of : Appended → (buffer : List ℕ) → Option (List ℕ)
said_of appended.Nothing buffer = None
said_of appended.Reply buffer = Some buffer
said_of (appended.OutOfMemory xid) buffer = Some (reply (accepted xid SystemErr))

-- The event of bytes that a session was given: those that were taken came. Where a fault was answered they were
-- dropped, but for those of `TooLong`, in which the header stands that passes the limit.
abbrev pub happened : ℕ → (piece : List ℕ) → Result Taken SessionFault → List Event
happened i piece (Ok taken.More) = Brings i piece ∷ []
happened i piece (Ok (taken.Answered used)) = Brings i (take used piece) ∷ []
happened i piece (Ok taken.Full) = []
happened i piece (Err (fault.Record (flaw.TooLong at))) = Brings i piece ∷ []
happened i piece (Err _) = Drops i piece ∷ []
