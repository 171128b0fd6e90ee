-- The bytes of the examples (RFC 5531 section 11).
use Rattle.std.specs.Prelude.{ℕ, List, [], ◌∷◌}

-- a record of 4 bytes
abbrev pub content : List ℕ
content = 1 ∷ 2 ∷ 3 ∷ 4 ∷ []

-- the same as one last fragment
abbrev pub marked : List ℕ
marked = 128 ∷ 0 ∷ 0 ∷ 4 ∷ 1 ∷ 2 ∷ 3 ∷ 4 ∷ []

-- the header of a last fragment of 16781313 bytes, one more than the limit
abbrev pub long_header : List ℕ
long_header = 129 ∷ 0 ∷ 16 ∷ 1 ∷ []
