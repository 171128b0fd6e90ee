-- How many connections may be open at a time, and how many files (this project's own).
use Rattle.std.specs.Prelude.{ℕ, ◌+◌, ◌-◌, ◌^◌, min, List, ◌++◌, codes, decimal}
use Rattle.oncrpc_sessions.specs.declared.shortage.Shortage.{Shortage}

-- the places of the Unix socket, which no connection over TCP takes (own)
abbrev pub local_places : ℕ
local_places = 16

-- how many may be open in all, where so many may be over TCP: as many as a word can count, at most (own)
abbrev pub most_open : (connections : ℕ) → ℕ
most_open connections = min (connections + local_places) (2 ^ 64 - 1)

-- how many files may have to be open, where so many connections may be over TCP: one for each, and 32 beside them (own)
abbrev pub most_files : (connections : ℕ) → ℕ
most_files connections = min (connections + 32) (2 ^ 64 - 1)

-- the line of a limit on open files that is lower (own)
abbrev pub shortage_line : Shortage → List ℕ
shortage_line s =
    codes "warning: the limit on open files is " ++ decimal s.limit ++ codes ", and " ++ decimal s.wanted
    ++ codes " may be needed\n"
