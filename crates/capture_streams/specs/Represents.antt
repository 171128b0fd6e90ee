-- What a direction stands for: segments that came, and the bytes that it has handed on.
use Rattle.std.specs.Prelude.{◌≡◌, ℕ, zero, suc, ◌+◌, ◌*◌, ◌≤◌, List, length, Option, None, is_some, if◌then◌else◌}
use Rattle.capture_streams.specs.declared.direction.Direction.{Direction}
use Rattle.capture_streams.specs.Segments.{Arrival, given, IsFront}
use Rattle.capture_streams.specs.Held.{HoldsAt, cost_of}

-- The places have these bytes. From the place `base` on, those up to the due place are handed on, and the others held.
pub record Represents (d : Direction) (g : ℕ → Option ℕ) (base : ℕ) (handed : List ℕ) : Type 0 where
  pub due : d.due ≡ base + length handed
  pub front : IsFront g base handed
  pub held : (place : ℕ) → d.due ≤ place → HoldsAt d.pieces.by_last place (g place)

-- These segments came, and these of the bytes that they give were handed on: those from the place `base` on, where the
-- direction began or went on behind a hole.
abbrev pub Stands : Direction → List Arrival → (base : ℕ) → (handed : List ℕ) → Type 0
Stands d arrivals base handed = Represents d (given d.first arrivals) base handed

-- the sequence number of place 0
abbrev pub first_of : Direction → ℕ
first_of d = d.first

-- the place of the next byte that is to be handed on
abbrev pub due_of : Direction → ℕ
due_of d = d.due

-- how much may be held, and how much is
abbrev pub limit_of : Direction → ℕ
limit_of d = d.pieces.limit

-- how much is held, as it is counted
abbrev pub held_of : Direction → ℕ
held_of d = d.pieces.held

-- the bytes that it holds, and 128 for each piece of them
abbrev pub cost_in : Direction → ℕ
cost_in d = cost_of d.pieces.by_last

-- how many of the n places from a place on have a byte
abbrev pub given_count : (ℕ → Option ℕ) → (from n : ℕ) → ℕ
given_count g from zero = 0
given_count g from (suc n) = (if is_some (g from) then 1 else 0) + given_count g (from + 1) n

-- So much is held of these bytes: those from the due place on, which were not handed on, and 128 for each piece of
-- them. No piece is empty, so 0 is held exactly where none of them stands there.
pub record HoldsGiven (d : Direction) (g : ℕ → Option ℕ) (held : ℕ) : Type 0 where
  pub places : ℕ
  pub pieces : ℕ
  pub none : (place : ℕ) → d.due + places ≤ place → g place ≡ None
  pub few : pieces ≤ given_count g d.due places
  pub count : held ≡ given_count g d.due places + 128 * pieces

-- the same of whatever segments came
abbrev pub HoldsWhatCame : Direction → (held : ℕ) → Type 0
HoldsWhatCame d held = (arrivals : List Arrival) (base : ℕ) (handed : List ℕ) → Stands d arrivals base handed
    → HoldsGiven d (given d.first arrivals) held

-- no byte is held for the due place: all that can be handed on is
abbrev pub IsAtHole : Direction → Type 0
IsAtHole d = HoldsAt d.pieces.by_last d.due None

-- it has the same first number and the same limit
pub record IsOfSame (old new : Direction) : Type 0 where
  pub first : new.first ≡ old.first
  pub limit : new.pieces.limit ≡ old.pieces.limit
