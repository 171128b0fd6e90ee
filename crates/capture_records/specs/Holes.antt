-- What is held behind a hole of a direction, how it goes on there, and what is told of it first (RFC 9293 section 3.4).
use Rattle.std.specs.Prelude.{◌≡◌, ℕ, ◌+◌, ◌<◌, ◌≤◌, List, Some, None}
use Rattle.capture_streams.specs.declared.direction.Direction.{Direction}
use Rattle.capture_streams.specs.Represents.{Stands}
use Rattle.capture_streams.specs.Segments.{Arrival, given}
use Rattle.capture_records.specs.declared.side.Next.TheVariants.{Refused}
use Rattle.capture_records.specs.declared.side.Side.{Side}
use Rattle.capture_records.specs.declared.step.Step.{Step}
use Rattle.capture_records.specs.declared.step.Step.TheVariants.{Tells, TooLong}
use Rattle.capture_records.specs.declared.told.Told.{Told}
use Rattle.capture_records.specs.declared.told.Told.TheVariants.{Missing}

-- Nothing is held: whatever pieces came, no place behind what was handed on has a byte.
pub record HoldsNone (side : Side) : Type 0 where
  pub none : (direction : Direction) → side.direction ≡ Some direction → (arrivals : List Arrival) (base : ℕ)
      (handed : List ℕ) → Stands direction arrivals base handed
      → (place : ℕ) → direction.due ≤ place → given direction.first arrivals place ≡ None

-- It went on with the first byte that was held: so many places before that have no byte, and are to be told as missing.
pub record GoesBehind (old new : Side) : Type 0 where
  pub direction : Direction
  pub was : old.direction ≡ Some direction
  pub count : ℕ
  pub missing : (arrivals : List Arrival) (base : ℕ) (handed : List ℕ) → Stands direction arrivals base handed
      → (place : ℕ) → direction.due ≤ place → place < direction.due + count
      → given direction.first arrivals place ≡ None
  pub next : (arrivals : List Arrival) (base : ℕ) (handed : List ℕ) → Stands direction arrivals base handed
      → (b : ℕ) × (given direction.first arrivals (direction.due + count) ≡ Some b)
  pub told : 0 < count → new.missing ≡ count

-- What is to be said comes first: of the bytes before a hole, how many are missing there, and of a header that no
-- record has.
pub record TellsNotes (old : Side) (step : Step) : Type 0 where
  pub broken : (told : Told) (count : ℕ) → old.broken ≡ Some (told, count) → step ≡ Tells told count
  pub missing : old.broken ≡ None → (old.missing ≡ 0 → ⊥) → step ≡ Tells Missing old.missing
  pub refused : old.broken ≡ None → old.missing ≡ 0 → old.next ≡ Refused → step ≡ TooLong
