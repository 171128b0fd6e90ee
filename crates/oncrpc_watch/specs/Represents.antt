-- Which messages a table of calls that wait, and what was seen so far, stand for.
use Rattle.std.specs.Prelude.{◌≡◌, ℕ, ◌+◌, ◌<◌, ◌≤◌, ◌^◌, List, IsSome}
use Rattle.oncrpc_messages.specs.declared.asked.Asked.{Asked}
use Rattle.oncrpc_watch.specs.declared.table.CallTable.{CallTable}
use Rattle.oncrpc_watch.specs.declared.table.TheConstants.{MOST_CALLS}
use Rattle.oncrpc_watch.specs.declared.watch.Watch.{Watch}
use Rattle.oncrpc_watch.specs.Heard.{Heard, IsKnownCall, Waits, calls_in}
use Rattle.oncrpc_watch.specs.Run.{State}
use Rattle.oncrpc_watch.specs.Waiting.{lasting, spare_of, waiting}

-- The calls that wait in it are those that wait by what was heard, but some that are forgotten: each is kept while
-- 65536 more are heard.
pub record Recalls (table : CallTable) (history : List Heard) : Type 0 where
  pub each : (way xid : ℕ) → xid < 2 ^ 32 → IsKnownCall history way xid (waiting table way xid)
  pub lasts : (way xid : ℕ) (asked : Asked) → xid < 2 ^ 32 → IsSome (waiting table way xid)
      → (w : Waits history way xid asked) → MOST_CALLS ≤ lasting table way xid + calls_in w.since
  pub spare : MOST_CALLS ≤ spare_of table + calls_in history

-- this was heard and counted
abbrev pub IsAt : Watch → State → Type 0
IsAt w s = Recalls w.table s.history × (w.counts ≡ s.counts)
