-- Why bytes are refused.
use Rattle.std.proofs.Common.{◌≡◌, ℕ, ◌+◌, ◌-◌, ◌^◌, ◌<◌, List, length, Result, Ok, Err, IfErr, sym}
use Rattle.std.proofs.Common.{subst, arith}
use Rattle.capture_streams.specs.declared.direction.Direction.{Direction}
use Rattle.capture_streams.specs.declared.pieces.Pieces.{Pieces}
use Rattle.capture_streams.specs.declared.refusal.Refusal.{Refusal}
use Rattle.capture_streams.specs.declared.refusal.Refusal.TheVariants as refusal
use Rattle.capture_streams.specs.declared.refusal.Want.{Want}
use Rattle.capture_streams.specs.declared.refusal.Want.TheVariants as want
use Rattle.capture_streams.specs.declared.stretch.Stretch.TheVariants.{Gap}
use Rattle.capture_streams.specs.Held.{IsGap}
use Rattle.capture_streams.specs.Segments.{lead_of}
use Rattle.capture_streams.specs.Taking.{RefusedFor, begin_ahead, taken_of}
use Rattle.capture_streams.specs.Private.Pieces.{FillWanted, IsStretch, WantedFor, WantedNext}
use Rattle.capture_streams.specs.Private.Steps.{RefusedAhead, RefusedAtDue}
use Rattle.capture_streams.proofs.Holding.{same_gap}

-- a gap was not filled
pub wanted_next : (old new : Pieces) (at most n k : ℕ) (w : Want) → IsStretch old.by_last at most (Gap n) → k ≡ n
    → WantedFor old new k w → WantedNext old new at most w
wanted_next old new at most n k w gap e wanted = (
  n,
  record { some = gap.0; few = gap.1; none = gap.2; ends = gap.3 },
  subst (λ (x : ℕ). WantedFor old new x w) e wanted,
)

-- the next of the bytes would pass the limit
pub full_next : (mid new : Pieces) (at done most : ℕ) (bytes : List ℕ) → most ≡ length bytes - done
    → WantedNext mid new (at + done) most want.Space → FillWanted new at bytes (refusal.Full done)
full_next mid new at done most bytes e w = (
  w.0,
  subst (λ (k : ℕ). IsGap new.by_last (at + done) k w.0) e
      (subst (λ (x : Pieces). IsGap x.by_last (at + done) most w.0) (sym w.2.0) w.1),
  w.2.1,
)

-- the next of the bytes would not, and memory was refused
pub memory_next : (mid new : Pieces) (at done most : ℕ) (bytes : List ℕ) → most ≡ length bytes - done
    → WantedNext mid new (at + done) most want.Memory → FillWanted new at bytes (refusal.NoMemory done)
memory_next mid new at done most bytes e w = (
  w.0,
  subst (λ (k : ℕ). IsGap new.by_last (at + done) k w.0) e
      (same_gap mid.by_last new.by_last (at + done) most w.0 w.2.1 w.1),
  w.2.3,
)

-- ---- a segment

pub refused_ahead : (new : Pieces) (at : ℕ) (bytes : List ℕ) (r : Refusal) → taken_of r < length bytes
    → FillWanted new at bytes r → RefusedAhead new at bytes r
refused_ahead new at bytes (refusal.Full taken) few w = (few, w)
refused_ahead new at bytes (refusal.NoMemory taken) few w = (omega arith, λ more. w)
refused_ahead new at bytes refusal.PlacesEnd few w = w

-- a segment begins so many places ahead
begins_there : (d : Direction) (sequence distance : ℕ) → lead_of d.first d.due sequence ≡ 2 ^ 31 + distance
    → d.due + distance ≡ begin_ahead d sequence
begins_there d sequence distance lead = omega (arith, lead)

ahead_for : (old new : Direction) (sequence distance : ℕ) (bytes : List ℕ) (r : Refusal) → 0 < distance
    → lead_of old.first old.due sequence ≡ 2 ^ 31 + distance → RefusedAhead new.pieces (old.due + distance) bytes r
    → RefusedFor old new sequence bytes r
ahead_for old new sequence distance bytes (refusal.Full taken) some lead h =
    let w = subst (λ (k : ℕ). FillWanted new.pieces k bytes (refusal.Full taken))
    (begins_there old sequence distance lead) h.1 in
    (h.0, omega (arith, lead), w)
ahead_for old new sequence distance bytes (refusal.NoMemory taken) some lead h = (
  h.0,
  λ more ahead. subst (λ (k : ℕ). FillWanted new.pieces k bytes (refusal.NoMemory taken))
      (begins_there old sequence distance lead) (h.1 more),
)
ahead_for old new sequence distance bytes refusal.PlacesEnd some lead h = absurd h

behind_for : (old new : Direction) (sequence distance : ℕ) (bytes : List ℕ) (r : Refusal)
    → lead_of old.first old.due sequence + distance ≡ 2 ^ 31 → RefusedAtDue bytes r
    → RefusedFor old new sequence bytes r
behind_for old new sequence distance bytes (refusal.Full taken) lead h = absurd h
behind_for old new sequence distance bytes (refusal.NoMemory taken) lead h =
    (h, λ more ahead. absurd (omega (arith, lead, ahead)))
behind_for old new sequence distance bytes refusal.PlacesEnd lead h = absurd h

pub if_ahead : {T : Type 0} (old new : Direction) (sequence distance : ℕ) (bytes : List ℕ) (r : Result T Refusal)
    → 0 < distance → lead_of old.first old.due sequence ≡ 2 ^ 31 + distance
    → IfErr r (RefusedAhead new.pieces (old.due + distance) bytes) → IfErr r (RefusedFor old new sequence bytes)
if_ahead old new sequence distance bytes (Ok x) some lead h = tt
if_ahead old new sequence distance bytes (Err e) some lead h = ahead_for old new sequence distance bytes e some lead h

pub if_behind : {T : Type 0} (old new : Direction) (sequence distance : ℕ) (bytes : List ℕ) (r : Result T Refusal)
    → lead_of old.first old.due sequence + distance ≡ 2 ^ 31 → IfErr r (RefusedAtDue bytes)
    → IfErr r (RefusedFor old new sequence bytes)
if_behind old new sequence distance bytes (Ok x) lead h = tt
if_behind old new sequence distance bytes (Err e) lead h = behind_for old new sequence distance bytes e lead h
