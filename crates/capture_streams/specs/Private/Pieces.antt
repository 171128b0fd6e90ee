-- What the calls of pieces do.
use Rattle.std.specs.Prelude.{◌≡◌, ℕ, ◌+◌, ◌-◌, ◌<◌, ◌≤◌, ◌⊎◌, List, length, take, Option, Some, None, IsSome}
use Rattle.std.specs.BTreeMap.{BTreeMap, get}
use Rattle.std.specs.Option.{option_or}
use Rattle.std.specs.Ordering.{nat_cmp}
use Rattle.capture_streams.specs.declared.piece.Piece.{Piece}
use Rattle.capture_streams.specs.declared.pieces.Pieces.{Pieces}
use Rattle.capture_streams.specs.declared.refusal.Refusal.{Refusal}
use Rattle.capture_streams.specs.declared.refusal.Refusal.TheVariants as refusal
use Rattle.capture_streams.specs.declared.refusal.Want.{Want}
use Rattle.capture_streams.specs.declared.refusal.Want.TheVariants as want
use Rattle.capture_streams.specs.declared.stretch.Stretch.{Stretch}
use Rattle.capture_streams.specs.declared.stretch.Stretch.TheVariants as stretch
use Rattle.capture_streams.specs.Segments.{byte_from}
use Rattle.capture_streams.specs.Held.{HoldsAt, IsHeld, IsGap}
use Rattle.capture_streams.specs.Taking.{taken_of}

-- each place from `at` on, so many, meets P
abbrev pub EachPlace : (at n : ℕ) → (ℕ → Type 0) → Type 0
EachPlace at n P = (place : ℕ) → at ≤ place → place < at + n → P place

-- At least one place, at most so many, and each with a byte or each without. Without, they are all up to the next that
-- has one.
abbrev pub IsStretch : BTreeMap ℕ Piece → (at most : ℕ) → Stretch → Type 0
IsStretch m at most (stretch.Gap n) =
    (0 < n) × (n ≤ most) × EachPlace at n (λ p. HoldsAt m p None) × ((n ≡ most) ⊎ IsHeld m (at + n))
IsStretch m at most (stretch.Held n) = (0 < n) × (n ≤ most) × EachPlace at n (λ p. IsHeld m p)

-- Where a place had a byte it keeps it, and else it has that of these bytes, if any.
abbrev pub Fills : (old new : BTreeMap ℕ Piece) → (at : ℕ) → List ℕ → Type 0
Fills old new at bytes = (place : ℕ) (o : Option ℕ) → HoldsAt old place o
    → HoldsAt new place (option_or o (byte_from at bytes place))

-- each piece begins where one began, or at this place or behind it
abbrev pub BeginFrom : (old new : BTreeMap ℕ Piece) → (at : ℕ) → Type 0
BeginFrom old new at = (last : ℕ) (piece : Piece) → get nat_cmp new last ≡ Some piece
    → (due : ℕ) → due ≤ at → ((q : ℕ) (v : Piece) → get nat_cmp old q ≡ Some v → due ≤ v.at) → due ≤ piece.at

pub record Puts (old new : BTreeMap ℕ Piece) (at : ℕ) (bytes : List ℕ) : Type 0 where
  pub fills : Fills old new at bytes
  pub from : BeginFrom old new at

-- the next few of the bytes are there
pub record FillsNext (old new : BTreeMap ℕ Piece) (at n : ℕ) (bytes : List ℕ) : Type 0 where
  pub some : 0 < n
  pub few : n ≤ length bytes
  pub fills : Fills old new at (take n bytes)
  pub from : BeginFrom old new at

-- why a piece of so many bytes was not put, and nothing has changed: it would pass the limit, or memory was refused
abbrev pub WantedFor : (old new : Pieces) → (count : ℕ) → Want → Type 0
WantedFor old new count want.Space =
    (new ≡ old) × (new.limit < new.held + count + 128)
WantedFor old new count want.Memory =
    (new.limit ≡ old.limit) × (new.by_last.entries ≡ old.by_last.entries) × (new.held ≡ old.held)
    × (new.held + count + 128 ≤ new.limit)

-- the same of the next of so many bytes from a place on, as one piece
abbrev pub WantedNext : (old new : Pieces) → (at most : ℕ) → Want → Type 0
WantedNext old new at most w = (n : ℕ) × IsGap old.by_last at most n × WantedFor old new n w

-- why bytes from one on were not held: with the next of them, as one piece, the limit is passed, or it is not
abbrev pub FillWanted : (new : Pieces) → (at : ℕ) → List ℕ → Refusal → Type 0
FillWanted new at bytes (refusal.Full taken) =
    (n : ℕ) × IsGap new.by_last (at + taken) (length bytes - taken) n × (new.limit < new.held + n + 128)
FillWanted new at bytes (refusal.NoMemory taken) =
    (n : ℕ) × IsGap new.by_last (at + taken) (length bytes - taken) n × (new.held + n + 128 ≤ new.limit)
FillWanted new at bytes refusal.PlacesEnd = ⊥

-- the bytes before the one that was refused are there
pub record FillsSome (old new : Pieces) (at : ℕ) (bytes : List ℕ) (r : Refusal) : Type 0 where
  pub few : taken_of r < length bytes
  pub fills : Fills old.by_last new.by_last at (take (taken_of r) bytes)
  pub wanted : FillWanted new at bytes r

-- the piece with the least last place
pub record IsFirst (m : BTreeMap ℕ Piece) (last : ℕ) (piece : Piece) : Type 0 where
  pub there : get nat_cmp m last ≡ Some piece
  pub least : (q : ℕ) → IsSome (get nat_cmp m q) → last ≤ q

abbrev pub HasFirst : BTreeMap ℕ Piece → Piece → Type 0
HasFirst m piece = (last : ℕ) × IsFirst m last piece

-- all pieces but one
pub record Drops (old new : BTreeMap ℕ Piece) (last : ℕ) : Type 0 where
  pub gone : get nat_cmp new last ≡ None
  pub others : (q : ℕ) → (q ≡ last → ⊥) → get nat_cmp new q ≡ get nat_cmp old q
