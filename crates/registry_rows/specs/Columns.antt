-- The column of programs, in which the program of each row stands beside the next.
use Rattle.std.specs.Prelude.{◌≡◌, ℕ, Bool, not, List, map, nat_eq}
use Rattle.registry_rows.specs.Rows.{Row}

-- the programs of the rows, in their order
abbrev pub programs_of : List Row → List ℕ
programs_of rows = map (λ r. r.prog) rows

-- The column has the programs of the rows.
abbrev pub IsColumn : List ℕ → List Row → Type 0
IsColumn column rows = column ≡ programs_of rows

-- another program than this one
abbrev pub is_other : ℕ → ℕ → Bool
is_other prog p = not (nat_eq p prog)
