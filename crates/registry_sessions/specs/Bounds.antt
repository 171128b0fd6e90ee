-- How much a session keeps (this project's own).
use Rattle.std.specs.Prelude.{ℕ}

-- the most bytes of a reply as one last fragment: four of its header, and 16777240
abbrev pub most_marked : ℕ
most_marked = 16777244

-- the most bytes of memory that are kept for a record to come
abbrev pub most_spare : ℕ
most_spare = 8192
