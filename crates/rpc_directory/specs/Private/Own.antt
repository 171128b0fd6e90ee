-- How the registry's own rows are added (RFC 1833 sections 2 and 3).
use Rattle.std.specs.Prelude.{ℕ, List}
use Rattle.registry_rows.specs.Rows.{Row, row_of}
use Rattle.registry_rows.specs.Steps.{set, superuser}
use Rattle.registry_rows.specs.Ports.{tcp, udp}
use Rattle.registry_rows.specs.Program.{program}

-- a row of the registry's program
abbrev pub own_row : (vers : ℕ) → (netid address : List ℕ) → Row
own_row vers netid address = row_of program vers netid address superuser

-- the rows after those of a version are set, over `tcp` and then over `udp`
abbrev pub set_both : List Row → (vers : ℕ) → (address : List ℕ) → List Row
set_both rows vers address = (set (set rows (own_row vers tcp address)).0 (own_row vers udp address)).0
