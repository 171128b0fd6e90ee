-- The steps of a direction, over whatever bytes its places have.
use Rattle.std.specs.Prelude.{◌≡◌, ℕ, ◌+◌, ◌^◌, ◌<◌, ◌≤◌, List, ◌++◌, length, Option}
use Rattle.std.specs.Option.{option_or}
use Rattle.capture_streams.specs.declared.direction.Direction.{Direction}
use Rattle.capture_streams.specs.declared.pieces.Pieces.{Pieces}
use Rattle.capture_streams.specs.declared.refusal.Refusal.{Refusal}
use Rattle.capture_streams.specs.declared.refusal.Refusal.TheVariants as refusal
use Rattle.capture_streams.specs.declared.side.Side.{Side}
use Rattle.capture_streams.specs.declared.side.Side.TheVariants as side
use Rattle.capture_streams.specs.Segments.{byte_from, lead_of}
use Rattle.capture_streams.specs.Represents.{Represents}
use Rattle.capture_streams.specs.Private.Pieces.{FillWanted}

-- these bytes from a place on, where a place has none
abbrev pub patched : (ℕ → Option ℕ) → (at : ℕ) → List ℕ → ℕ → Option ℕ
patched g at bytes place = option_or (g place) (byte_from at bytes place)

-- whatever bytes the places had, the new direction represents them with these, of which it has handed on some more
abbrev pub Moves : (old new : Direction) → (at : ℕ) → (bytes handed : List ℕ) → Type 0
Moves old new at bytes handed = (g : ℕ → Option ℕ) (base : ℕ) (before : List ℕ) → Represents old g base before
    → Represents new (patched g at bytes) base (before ++ handed)

-- bytes at the due place were handed on
pub record Appends (old new : Direction) (bytes out out' : List ℕ) : Type 0 where
  pub appended : out' ≡ out ++ bytes
  pub moves : Moves old new old.due bytes bytes
  pub due : new.due ≡ old.due + length bytes

-- a held piece was handed on
pub record Pops (old new : Direction) (out out' : List ℕ) : Type 0 where
  pub handed : List ℕ
  pub appended : out' ≡ out ++ handed
  pub moves : (g : ℕ → Option ℕ) (base : ℕ) (before : List ℕ) → Represents old g base before
      → Represents new g base (before ++ handed)
  pub further : old.due < new.due

-- held pieces were handed on, or none
pub record PopsAll (old new : Direction) (out out' : List ℕ) : Type 0 where
  pub handed : List ℕ
  pub appended : out' ≡ out ++ handed
  pub moves : (g : ℕ → Option ℕ) (base : ℕ) (before : List ℕ) → Represents old g base before
      → Represents new g base (before ++ handed)
  pub further : old.due ≤ new.due

-- Bytes from a place on were taken, and what was due by then was handed on, or a beginning of it.
pub record Steps (old new : Direction) (at : ℕ) (bytes out out' : List ℕ) : Type 0 where
  pub handed : List ℕ
  pub appended : out' ≡ out ++ handed
  pub moves : Moves old new at bytes handed

-- why bytes from a place ahead of the due one were refused, from one on
abbrev pub RefusedAhead : (new : Pieces) → (at : ℕ) → List ℕ → Refusal → Type 0
RefusedAhead new at bytes (refusal.Full taken) =
    (taken < length bytes) × FillWanted new at bytes (refusal.Full taken)
RefusedAhead new at bytes (refusal.NoMemory taken) =
    (taken ≤ length bytes) × (taken < length bytes → FillWanted new at bytes (refusal.NoMemory taken))
RefusedAhead new at bytes refusal.PlacesEnd = ⊥

-- bytes at the due place are refused for want of memory alone
abbrev pub RefusedAtDue : List ℕ → Refusal → Type 0
RefusedAtDue bytes (refusal.Full taken) = ⊥
RefusedAtDue bytes (refusal.NoMemory taken) = taken ≤ length bytes
RefusedAtDue bytes refusal.PlacesEnd = ⊥

-- where a segment begins
abbrev pub IsSide : (first due sequence : ℕ) → Side → Type 0
IsSide first due sequence (side.Ahead n) = (0 < n) × (lead_of first due sequence ≡ 2 ^ 31 + n)
IsSide first due sequence (side.Behind n) = lead_of first due sequence + n ≡ 2 ^ 31
