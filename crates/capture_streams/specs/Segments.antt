-- The segments of one direction of a connection, and the bytes that they give (RFC 9293, sections 3.4 and 3.10.7.4).
-- Places count the bytes of the direction from 0 on. Their sequence numbers wrap at 2^32.
use Rattle.std.specs.Prelude.{◌≡◌, ℕ, ◌+◌, ◌-◌, ◌%◌, ◌^◌, ◌==◌, if◌then◌else◌, List, [], ◌∷◌, length, Option, Some}
use Rattle.std.specs.Prelude.{None}
use Rattle.std.specs.Option.{option_or}

-- the sequence number of the first byte, and the bytes
pub record Segment : Type 0 where
  pub sequence : ℕ
  pub bytes : List ℕ

-- a segment, and the place that was due when it came
pub record Arrival : Type 0 where
  pub due : ℕ
  pub segment : Segment

-- the sequence number of a place, where that of place 0 is `first`
abbrev pub number_of : (first place : ℕ) → ℕ
number_of first place = (first + place) % 2 ^ 32

-- How far behind the place 2^31 before the due one a segment begins. It is below 2^32, so that a segment begins less
-- than 2^31 places ahead of the due one, or at most 2^31 behind: `IsNear` of `Laws` says the same by numbers alone.
abbrev pub lead_of : (first due sequence : ℕ) → ℕ
lead_of first due sequence = (sequence + (2 ^ 32 - number_of first due) + 2 ^ 31) % 2 ^ 32

-- the byte at a place, of bytes that stand one after another from the place `at` on
abbrev pub byte_from : (at : ℕ) → List ℕ → (place : ℕ) → Option ℕ
byte_from at [] place = None
byte_from at (b ∷ bs) place = if place == at then Some b else byte_from (at + 1) bs place

-- The byte that a segment has for a place. Both are counted from 2^31 places before place 0, since a segment may begin
-- before it.
abbrev pub byte_of : (first : ℕ) → Arrival → (place : ℕ) → Option ℕ
byte_of first a place = byte_from (a.due + lead_of first a.due a.segment.sequence) a.segment.bytes (place + 2 ^ 31)

-- The byte that segments, in the order in which they came, give at a place: that of the first one that has any.
abbrev pub given : (first : ℕ) → List Arrival → (place : ℕ) → Option ℕ
given first [] place = None
given first (a ∷ others) place = option_or (byte_of first a place) (given first others place)

-- these bytes are given from a place on
abbrev pub IsFront : (ℕ → Option ℕ) → (from : ℕ) → List ℕ → Type 0
IsFront g from [] = Unit {0}
IsFront g from (b ∷ bs) = (g from ≡ Some b) × IsFront g (from + 1) bs

-- These bytes are given from a place on, up to the first place at which none is: the stream, where that place is 0.
pub record IsRun (g : ℕ → Option ℕ) (from : ℕ) (bytes : List ℕ) : Type 0 where
  pub front : IsFront g from bytes
  pub ends : g (from + length bytes) ≡ None
