-- The registry's own program (RFC 1833 sections 2 and 3).
use Rattle.std.specs.Prelude.{ℕ, List, [], ◌∷◌}

-- its number
abbrev pub program : ℕ
program = 100000

-- its lowest version, which names transports by number (RFC 1833 section 3)
abbrev pub lowest_version : ℕ
lowest_version = 2

-- its highest version (RFC 1833 section 2)
abbrev pub highest_version : ℕ
highest_version = 4

-- all of them
abbrev pub versions : List ℕ
versions = 2 ∷ 3 ∷ 4 ∷ []
