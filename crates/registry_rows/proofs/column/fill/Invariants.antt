use Rattle.std.proofs.Common.{take, length, ◌-◌}
use Rattle.registry_rows.specs.Columns.{IsColumn}
use Rattle.registry_rows.specs.Views.{plain_rows}
use Rattle.registry_rows.proofs.column.fill.Given as goal

-- The column has the programs of so many rows as it has programs.
abbrev pub invariant-loop-key : goal.invariant-loop-key
invariant-loop-key g l = IsColumn l.column.items (take (length l.column.items) (plain_rows l.rows.entries))

abbrev pub decreases-loop-key : goal.decreases-loop-key
decreases-loop-key g l = length l.rows.entries - length l.column.items
