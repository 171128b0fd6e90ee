-- What a call leaves in the buffer that C lends.
use Rattle.std.specs.Prelude.{◌≡◌, ◌<◌, ℕ, List, ◌++◌, length, drop}

-- the bytes stand at the front of the buffer, whose other bytes stay
abbrev pub AreAtFront : (bytes old new : List ℕ) → Type 0
AreAtFront bytes old new = new ≡ bytes ++ drop (length bytes) old

-- the buffer has too few bytes for them, and stays
abbrev pub HasTooFew : (bytes old new : List ℕ) → Type 0
HasTooFew bytes old new = (length old < length bytes) × (new ≡ old)

-- nothing is written
abbrev pub IsRetained : (old new : List ℕ) → (written : ℕ) → Type 0
IsRetained old new written = (new ≡ old) × (written ≡ 0)
