-- What a registry holds, as plain values.
use Rattle.std.specs.Prelude.{ℕ, List, Option}
use Rattle.registry_rows.specs.Rows.{Row}
use Rattle.registry_answer.specs.Views.{sent_of}
use Rattle.c_registry.specs.declared.state.State.{State}

-- the rows in their order, and the reply that waits for a buffer
pub record Held : Type 0 where
  pub rows : List Row
  pub waits : Option (List ℕ)

abbrev pub held_of : State → Held
held_of s = record { rows = s.directory; waits = sent_of s.waiting }
