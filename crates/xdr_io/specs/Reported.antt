-- What reads and writes do to the bytes and the counts that a source or a sink reports.
use Rattle.std.specs.Prelude.{◌≡◌, ℕ, ◌+◌, ◌-◌, ◌^◌, ◌≤◌, ◌==◌, ◌&&◌, nat_lt, List, length, take, ⊤, None, Some, Ok}
use Rattle.std.specs.Prelude.{Err, Option, Result, MatchResult, if◌then◌else◌}
use Rattle.std.specs.Io.KnownBytes.{Keeps, Appends, Consumes, IsAtEnd}

-- a count, which is reported up to 2^64 - 2
abbrev pub reported_count : ℕ → Option ℕ
reported_count n = if nat_lt n (2 ^ 64 - 1) then Some n else None

-- A count that is reported goes up by k, and is reported no more from 2^64 - 1 on.
abbrev pub Counts : ℕ → Option ℕ → Option ℕ → Type 0
Counts k None None = ⊤
Counts k None (Some n) = ⊥
Counts k (Some m) None = 2 ^ 64 - 1 ≤ m + k
Counts k (Some m) (Some n) = n ≡ m + k

-- A count that is reported goes up by at most this many.
pub record CountsAtMost (most : ℕ) (old new : Option ℕ) : Type 0 where
  pub calls : ℕ
  pub few : calls ≤ most
  pub counted : Counts calls old new

-- At most this many of the next bytes were moved.
pub record MovesAtMost (most : ℕ) (old new : Option (List ℕ)) : Type 0 where
  pub input : List ℕ
  pub few : length input ≤ most
  pub read : Consumes old new input

-- Ok(n) moves the next n bytes to the front of the array, 0 only where none is left. An Err moves none.
abbrev pub ReadMoves : {E : Type 0} → Option (List ℕ) → Option (List ℕ) → Result ℕ E → List ℕ → Type 0
ReadMoves old new r array = MatchResult r (λ n. Consumes old new (take n array) × (n ≡ 0 → IsAtEnd new))
    (λ _. Keeps old new)

-- an Err is a failed read
abbrev pub read_failures : {E : Type 0} → Result ℕ E → ℕ
read_failures (Ok n) = 0
read_failures (Err e) = 1

-- Ok(n) takes the first n bytes of the piece. An Err takes none.
abbrev pub WriteMoves : {E : Type 0} → Option (List ℕ) → Option (List ℕ) → Result ℕ E → List ℕ → Type 0
WriteMoves old new r piece = MatchResult r (λ n. Appends old new (take n piece)) (λ _. Keeps old new)

-- an Err is a failed write, and so is one of 0 bytes of a piece that has some
abbrev pub write_failures : {E : Type 0} → Result ℕ E → List ℕ → ℕ
write_failures (Ok n) piece = if (n == 0) && nat_lt 0 (length piece) then 1 else 0
write_failures (Err e) piece = 1
