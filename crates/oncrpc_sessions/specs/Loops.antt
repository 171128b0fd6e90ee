-- What a loop over sockets does to a table of sessions and a registry (this project's own).
use Rattle.std.specs.Prelude.{ℕ, List}
use Rattle.registry_rows.specs.Rows.{Row}
use Rattle.registry_sessions.specs.declared.table.SessionTable.{SessionTable}
use Rattle.registry_sessions.specs.Events.{Event}
use Rattle.registry_sessions.specs.Progress.{Proceeds}

-- Whatever the sockets gave and took, the table has done some events more, and sent some datagrams more.
pub record Goes (old new : SessionTable) (mid after : List Row) : Type 0 where
  pub events : List Event
  pub said : List (List ℕ)
  pub proceeds : Proceeds old new mid after events said
