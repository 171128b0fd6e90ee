-- Laws of the interleaving.
use Rattle.std.specs.Prelude.{◌≡◌, ◌≢◌, ℕ, Bool, List, [], ◌∷◌, ◌++◌, Option, ⊤}
use Rattle.std.specs.List.{flat_map}
use Rattle.std.specs.Io.KnownBytes.{Appends, Consumes, IsAtEnd}
use Rattle.rpc_record.specs.Marked.{normal}
use Rattle.rpc_record.specs.Reading.{IsWhole}
use Rattle.registry_rows.specs.Rows.{Row}
use Rattle.registry_callers.specs.Laws.{NeverAgain, NeverPlaced}
use Rattle.registry_callers.specs.declared.callers.Peer.TheVariants as peer
use Rattle.registry_sessions.specs.declared.origin.Origin.{Origin}
use Rattle.registry_answer.specs.Views.{netid_of}
use Rattle.rpc_engine.specs.declared.fault.Served.{Served}
use Rattle.rpc_engine.specs.Counted.{IsServed}
use Rattle.rpc_engine.specs.Served.{most_record, Serves}
use Rattle.registry_sessions.specs.declared.table.SessionTable.{SessionTable}
use Rattle.registry_sessions.specs.Events.{Event, Arrival, brought, datagram_in, records_of}
use Rattle.registry_sessions.specs.Events.{message_of, netid_in, caller_in}
use Rattle.registry_sessions.specs.Interleaved.{Interleaves, MergedRun, replies_of}
use Rattle.registry_sessions.specs.Progress.{HasDone, Proceeds, Sessions, session_at}

-- What a table has done is the interleaving.
abbrev pub TableInterleaves : Type 0
TableInterleaves = (rows new : List Row) (events : List Event) (table : SessionTable) (sent : List (List ℕ))
    → HasDone rows events new table sent → Interleaves rows events new (session_at table) sent

-- Two steps, one after the other, are one.
abbrev pub StepsJoin : Type 0
StepsJoin = (a b c : SessionTable) (rows mid new : List Row) (events more : List Event) (said others : List (List ℕ))
    → Proceeds a b rows mid events said → Proceeds b c mid new more others
    → Proceeds a c rows new (events ++ more) (said ++ others)

-- what came is of one connection alone
pub record AreOf (i : ℕ) (events : List Event) : Type 0 where
  pub others : (j : ℕ) → j ≢ i → brought j events ≡ []
  pub no_datagrams : flat_map datagram_in events ≡ []

-- Along a run no record is a SET of a row that is there, nor looks an address at 0.0.0.0 up whose caller came to a host
-- that is known.
abbrev pub ArePlain : (whence : ℕ → Origin) (rows : List Row) (arrivals : List Arrival) (refusals : List Bool)
    (new : List Row) (sent : List (Option (List ℕ))) → MergedRun whence rows arrivals refusals new sent → Type 0
ArePlain whence rows (a ∷ rest) (y ∷ ys) new (s ∷ more) (mid, (answer, run)) =
    NeverAgain rows (netid_in whence a) (message_of a)
    × NeverPlaced (caller_in whence a).host rows (netid_in whence a) (message_of a)
    × ArePlain whence mid rest ys new more run
ArePlain whence rows _ _ new _ run = ⊤

-- Where one connection alone was served and its bytes are whole records, rows, replies and counts are those of `serve`.
-- That has a source that gave these bytes and ended, and a sink that took all replies. `serve` knows of no caller: this
-- holds of one of this host who sets no row again and looks no address at 0.0.0.0 up.
abbrev pub AloneServes : Type 0
AloneServes = (rows new : List Row) (events : List Event) (open_at : Sessions) (sent : List (List ℕ)) (i : ℕ)
    (left left' taken taken' : Option (List ℕ)) (served : Served)
    (w : Interleaves rows events new open_at sent) → AreOf i events
    → (w.whence i).caller.peer ≡ peer.Local → ArePlain w.whence rows w.arrivals w.refusals new w.answers w.run
    → IsWhole most_record (records_of i w.arrivals) (brought i events)
    → Consumes left left' (brought i events) → IsAtEnd left'
    → Appends taken taken' (normal (replies_of i w.arrivals w.answers))
    → IsServed served (records_of i w.arrivals) (replies_of i w.arrivals w.answers)
    → Serves (netid_of (w.whence i).transport) rows new left left' taken taken' served
