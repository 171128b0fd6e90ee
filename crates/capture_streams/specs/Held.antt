-- What pieces that are held give at each place. Each is kept under the place of its last byte.
use Rattle.std.specs.Prelude.{◌≡◌, ℕ, ◌+◌, ◌^◌, ◌<◌, ◌≤◌, ◌⊎◌, length, Option, Some, None}
use Rattle.std.specs.BTreeMap.{BTreeMap, get}
use Rattle.std.specs.List.{sum_by}
use Rattle.std.specs.Map.{values_of}
use Rattle.std.specs.Ordering.{nat_cmp}
use Rattle.capture_streams.specs.declared.piece.Piece.{Piece}
use Rattle.capture_streams.specs.Segments.{byte_from}

-- a piece has the byte b at the place
pub record Holds (m : BTreeMap ℕ Piece) (place b : ℕ) : Type 0 where
  pub last : ℕ
  pub piece : Piece
  pub there : get nat_cmp m last ≡ Some piece
  pub gives : byte_from piece.at piece.bytes.items place ≡ Some b

-- what the pieces have at the place, if any has a byte there
abbrev pub HoldsAt : BTreeMap ℕ Piece → (place : ℕ) → Option ℕ → Type 0
HoldsAt m place (Some b) = Holds m place b
HoldsAt m place None = (b : ℕ) → Holds m place b → ⊥

-- some piece has a byte at the place
abbrev pub IsHeld : BTreeMap ℕ Piece → (place : ℕ) → Type 0
IsHeld m place = (b : ℕ) × Holds m place b

-- each piece has bytes, and ends with the place that it is kept under
pub record IsPiece (last : ℕ) (piece : Piece) : Type 0 where
  pub some : 0 < length piece.bytes.items
  pub ends : piece.at + length piece.bytes.items ≡ last + 1
  pub low : last + 2 < 2 ^ 64

-- no two pieces share a place
pub record AreApart (m : BTreeMap ℕ Piece) : Type 0 where
  pub whole : (last : ℕ) (piece : Piece) → get nat_cmp m last ≡ Some piece → IsPiece last piece
  pub apart : (last later : ℕ) (piece other : Piece) → get nat_cmp m last ≡ Some piece
      → get nat_cmp m later ≡ Some other → last < later → last < other.at

-- Of bytes that stand from a place on, so many, the first n would be one piece: no place of them has a byte, and behind
-- them these bytes end, or a place has one.
pub record IsGap (m : BTreeMap ℕ Piece) (at most n : ℕ) : Type 0 where
  pub some : 0 < n
  pub few : n ≤ most
  pub none : (place : ℕ) → at ≤ place → place < at + n → HoldsAt m place None
  pub ends : (n ≡ most) ⊎ IsHeld m (at + n)

-- each piece begins at this place or behind it
abbrev pub StandFrom : (due : ℕ) → BTreeMap ℕ Piece → Type 0
StandFrom due m = (last : ℕ) (piece : Piece) → get nat_cmp m last ≡ Some piece → due ≤ piece.at

-- what pieces count against the limit: their bytes, and 128 more for each
abbrev pub cost_of : BTreeMap ℕ Piece → ℕ
cost_of m = sum_by (λ (p : Piece). length p.bytes.items + 128) (values_of m.entries)
