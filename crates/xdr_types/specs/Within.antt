-- Limits on depth and bytes.
use Rattle.std.specs.Prelude.{◌≡◌, ℕ, ◌+◌, ◌≤◌, ◌<◌, ◌%◌, List, length, Option, MatchOption}
use Rattle.xdr_types.specs.Kinds.{KindView}
use Rattle.xdr_types.specs.Tree.{Tree, depth}
use Rattle.xdr_types.specs.Fits.{Fits}
use Rattle.xdr_types.specs.Spelling.{bytes_of}

-- a limit on depth and one on bytes
pub record Bounds : Type 0 where
  pub depth : ℕ
  pub bytes : ℕ

-- limits that may be set: depth 1 to 4096; bytes 4 to 16777216 in whole units
pub record AreBounds (depth bytes : ℕ) : Type 0 where
  pub least_depth : 1 ≤ depth
  pub most_depth : depth ≤ 4096
  pub least_bytes : 4 ≤ bytes
  pub most_bytes : bytes ≤ 16777216
  pub units : bytes % 4 ≡ 0

-- a tree and its bytes are within limits
abbrev pub IsWithin : Bounds → Tree → List ℕ → Type 0
IsWithin limits t bs = (depth t ≤ limits.depth) × (length bs ≤ limits.bytes)

-- a value of the kind at the place, within limits
abbrev pub FitsWithin : List KindView → ℕ → Bounds → Tree → Type 0
FitsWithin kinds place limits t = Fits kinds place t × IsWithin limits t (bytes_of kinds place t)

-- what is left of space for bytes after n of them, where they have space
abbrev pub IsLeft : ℕ → ℕ → Option ℕ → Type 0
IsLeft space n left = MatchOption left (space < n) (λ (r : ℕ). r + n ≡ space)
