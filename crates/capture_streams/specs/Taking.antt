-- What taking a segment, handing on and skipping a hole do.
use Rattle.std.specs.Prelude.{◌≡◌, ℕ, ◌+◌, ◌-◌, ◌^◌, ◌<◌, ◌≤◌, List, [], ◌∷◌, ◌++◌, length, take, Option, Some, None}
use Rattle.std.specs.Prelude.{Result, Ok, Err}
use Rattle.capture_streams.specs.declared.direction.Direction.{Direction}
use Rattle.capture_streams.specs.declared.refusal.Refusal.{Refusal}
use Rattle.capture_streams.specs.declared.refusal.Refusal.TheVariants as refusal
use Rattle.capture_streams.specs.declared.side.Ending.{Ending}
use Rattle.capture_streams.specs.declared.side.Ending.TheVariants as ending
use Rattle.capture_streams.specs.Held.{IsGap}
use Rattle.capture_streams.specs.Segments.{Arrival, given, lead_of}
use Rattle.capture_streams.specs.Represents.{Stands, due_of, held_of, limit_of}

-- the segment with this number and these bytes, as it came to a direction
abbrev pub arrival_at : Direction → (sequence : ℕ) → (bytes : List ℕ) → Arrival
arrival_at d sequence bytes = record { due = d.due; segment = record { sequence = sequence; bytes = bytes } }

-- how many of a segment's bytes count as taken
abbrev pub taken_of : Refusal → ℕ
taken_of (refusal.Full taken) = taken
taken_of (refusal.NoMemory taken) = taken
taken_of refusal.PlacesEnd = 0

-- the bytes of a segment that count as taken: all, or those before the one that was refused
abbrev pub taken_part : {T : Type 0} → Result T Refusal → List ℕ → List ℕ
taken_part (Ok u) bytes = bytes
taken_part (Err r) bytes = take (taken_of r) bytes

-- These bytes were handed on, and the segment counts as come. So whatever segments came before, the new direction
-- stands for these and this one, and for these bytes behind those that were handed on.
pub record Takes (old new : Direction) (sequence : ℕ) (bytes out out' : List ℕ) : Type 0 where
  pub handed : List ℕ
  pub appended : out' ≡ out ++ handed
  pub stands : (arrivals : List Arrival) (base : ℕ) (before : List ℕ) → Stands old arrivals base before
      → Stands new (arrivals ++ arrival_at old sequence bytes ∷ []) base (before ++ handed)

-- the same, where no segment came
pub record HandsOn (old new : Direction) (out out' : List ℕ) : Type 0 where
  pub handed : List ℕ
  pub appended : out' ≡ out ++ handed
  pub stands : (arrivals : List Arrival) (base : ℕ) (before : List ℕ) → Stands old arrivals base before
      → Stands new arrivals base (before ++ handed)

-- A segment begins ahead of the due place.
abbrev pub IsAhead : Direction → (sequence : ℕ) → Type 0
IsAhead d sequence = 2 ^ 31 < lead_of d.first d.due sequence

-- the place of the first byte of such a segment
abbrev pub begin_ahead : Direction → (sequence : ℕ) → ℕ
begin_ahead d sequence = d.due + lead_of d.first d.due sequence - 2 ^ 31

-- Of a segment that begins ahead so many bytes count as taken. The next n of it are the piece that would be held next.
abbrev pub IsNextPiece : (old new : Direction) → (sequence : ℕ) → (bytes : List ℕ) → (taken n : ℕ) → Type 0
IsNextPiece old new sequence bytes taken n =
    IsGap new.pieces.by_last (begin_ahead old sequence + taken) (length bytes - taken) n

-- When a segment is refused, or its bytes from one on. For the limit: it begins ahead, and with its next piece the
-- direction would count more than the limit. For want of memory: all of it was taken, or it does not begin ahead, or
-- with its next piece the direction would count no more than that. For want of places: the due one is behind place
-- 2^62.
abbrev pub RefusedFor : (old new : Direction) → (sequence : ℕ) → (bytes : List ℕ) → Refusal → Type 0
RefusedFor old new sequence bytes (refusal.Full taken) =
    (taken < length bytes) × IsAhead old sequence
    × ((n : ℕ) × IsNextPiece old new sequence bytes taken n × (limit_of new < held_of new + n + 128))
RefusedFor old new sequence bytes (refusal.NoMemory taken) =
    (taken ≤ length bytes) × (taken < length bytes → IsAhead old sequence
    → (n : ℕ) × IsNextPiece old new sequence bytes taken n × (held_of new + n + 128 ≤ limit_of new))
RefusedFor old new sequence bytes refusal.PlacesEnd = (2 ^ 62 < due_of old) × (new ≡ old)

-- the places that were due have no byte, the one that is has one, and nothing was handed on since
pub record SkippedOver (old new : Direction) (arrivals : List Arrival) : Type 0 where
  pub missing : (place : ℕ) → old.due ≤ place → place < new.due → given old.first arrivals place ≡ None
  pub next : (b : ℕ) × (given old.first arrivals new.due ≡ Some b)
  pub stands : Stands new arrivals new.due []

-- What skipping a hole does. None: nothing is held, and the direction stays. Some: from the due place on so many places
-- have no byte, and the next one is due. That one has a byte, which is held.
abbrev pub Skips : Direction → Direction → Option ℕ → Type 0
Skips old new None = (new ≡ old) × ((arrivals : List Arrival) (base : ℕ) (before : List ℕ)
    → Stands old arrivals base before → (place : ℕ) → old.due ≤ place → given old.first arrivals place ≡ None)
Skips old new (Some missing) = (new.due ≡ old.due + missing) × ((arrivals : List Arrival) (base : ℕ)
    (before : List ℕ) → Stands old arrivals base before → SkippedOver old new arrivals)

-- how the direction ends at a number: it is that of the due place, or of one so many places ahead or behind
abbrev pub IsEnding : Direction → (sequence : ℕ) → Ending → Type 0
IsEnding d sequence ending.Whole = lead_of d.first d.due sequence ≡ 2 ^ 31
IsEnding d sequence (ending.Cut missing) = (0 < missing) × (lead_of d.first d.due sequence ≡ 2 ^ 31 + missing)
IsEnding d sequence (ending.Past beyond) = (0 < beyond) × (lead_of d.first d.due sequence + beyond ≡ 2 ^ 31)
