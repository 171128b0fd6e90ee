-- What the definitions come to.
use Rattle.std.specs.Prelude.{◌≡◌, ℕ, ◌+◌, ◌%◌, ◌^◌, ◌<◌, ◌≤◌, ◌↔◌, ◌⊎◌, List, [], ◌∷◌, ◌++◌, map, take}
use Rattle.std.specs.Prelude.{Option, Some, None, slice_get}
use Rattle.std.specs.List.Sorted.{IsPermutation}
use Rattle.capture_streams.specs.declared.direction.Direction.{Direction}
use Rattle.capture_streams.specs.Segments.{Segment, Arrival, number_of, lead_of, byte_of, given, IsFront, IsRun}
use Rattle.capture_streams.specs.Represents.{Stands, IsAtHole}

-- ---- places and sequence numbers

-- The segment's byte k stands at the place: it has its number, and with it the segment begins near the due place, less
-- than 2^31 places ahead or at most 2^31 behind (RFC 9293, section 3.4).
pub record IsNear (first due : ℕ) (s : Segment) (k place : ℕ) : Type 0 where
  pub numbered : number_of first place ≡ (s.sequence + k) % 2 ^ 32
  pub ahead : place < due + k + 2 ^ 31
  pub behind : due + k ≤ place + 2 ^ 31

-- a segment has a byte for a place exactly if one of its bytes stands near there by its number
abbrev pub BytesStandNear : Type 0
BytesStandNear = (first : ℕ) (a : Arrival) (place b : ℕ) → first < 2 ^ 32 → a.segment.sequence < 2 ^ 32
    → (byte_of first a place ≡ Some b)
    ↔ ((k : ℕ) × (slice_get a.segment.bytes k ≡ Some b) × IsNear first a.due a.segment k place)

-- where a segment begins, counted from 2^31 places before place 0
abbrev pub begin_of : (first due sequence : ℕ) → ℕ
begin_of first due sequence = due + lead_of first due sequence

-- it is the same for each due place that is near it
abbrev pub BeginsOnce : Type 0
BeginsOnce = (first due other sequence : ℕ) → first < 2 ^ 32 → sequence < 2 ^ 32
    → other ≤ begin_of first due sequence → begin_of first due sequence < other + 2 ^ 32
    → begin_of first other sequence ≡ begin_of first due sequence

-- ---- the first one wins

-- The byte b is that of the first segment which has any for the place.
pub record IsOfFirst (first : ℕ) (arrivals : List Arrival) (place b : ℕ) : Type 0 where
  pub before : List Arrival
  pub winner : Arrival
  pub later : List Arrival
  pub order : arrivals ≡ before ++ winner ∷ later
  pub none : given first before place ≡ None
  pub byte : byte_of first winner place ≡ Some b

-- what is given at a place is that byte, and nothing else
abbrev pub FirstWins : Type 0
FirstWins = (first : ℕ) (arrivals : List Arrival) (place b : ℕ)
    → (given first arrivals place ≡ Some b) ↔ IsOfFirst first arrivals place b

-- a byte that a place has stays, whatever comes later
abbrev pub BytesStay : Type 0
BytesStay = (first : ℕ) (arrivals later : List Arrival) (place b : ℕ) → given first arrivals place ≡ Some b
    → given first (arrivals ++ later) place ≡ Some b

-- ---- one stream

-- bytes from a place on are a beginning of the run from there, and there is one run
abbrev pub FrontBegins : Type 0
FrontBegins = (g : ℕ → Option ℕ) (from : ℕ) (front bytes : List ℕ) → IsFront g from front → IsRun g from bytes
    → (rest : List ℕ) × (bytes ≡ front ++ rest)

-- from a place on there is one run
abbrev pub OneRun : Type 0
OneRun = (g : ℕ → Option ℕ) (from : ℕ) (bytes others : List ℕ) → IsRun g from bytes → IsRun g from others
    → bytes ≡ others

-- What a direction has handed on is given, and where nothing more is due it is the run.
abbrev pub HandedIsGiven : Type 0
HandedIsGiven = (d : Direction) (arrivals : List Arrival) (base : ℕ) (handed : List ℕ) → Stands d arrivals base handed
    → IsFront (given d.first arrivals) base handed

-- where no byte is held for the due place, it is all of the run
abbrev pub HandedIsTheRun : Type 0
HandedIsTheRun = (d : Direction) (arrivals : List Arrival) (base : ℕ) (handed : List ℕ)
    → Stands d arrivals base handed → IsAtHole d → IsRun (given d.first arrivals) base handed

-- ---- any order

-- some segment has the byte b for the place
abbrev pub Gives : (first : ℕ) → List Arrival → (place b : ℕ) → Type 0
Gives first [] place b = ⊥
Gives first (a ∷ others) place b = (byte_of first a place ≡ Some b) ⊎ Gives first others place b

-- no two segments have different bytes for a place
abbrev pub Agree : (first : ℕ) → List Arrival → Type 0
Agree first arrivals = (place b c : ℕ) → Gives first arrivals place b → Gives first arrivals place c → b ≡ c

-- where a segment begins, and its bytes
abbrev pub laid : (first : ℕ) → Arrival → ℕ × List ℕ
laid first a = (begin_of first a.due a.segment.sequence, a.segment.bytes)

-- Segments that agree give the same bytes in any order, and so one stream.
abbrev pub AnyOrder : Type 0
AnyOrder = (first : ℕ) (arrivals others : List Arrival) → Agree first arrivals
    → IsPermutation (map (laid first) arrivals) (map (laid first) others)
    → (place : ℕ) → given first arrivals place ≡ given first others place

-- So two directions with one first number, to which such segments came, have handed on the same bytes where each is at
-- its first hole.
abbrev pub AnyOrderHanded : Type 0
AnyOrderHanded = (d e : Direction) (arrivals others : List Arrival) (handed given_on : List ℕ) → d.first ≡ e.first
    → Stands d arrivals 0 handed → IsAtHole d → Stands e others 0 given_on → IsAtHole e → Agree d.first arrivals
    → IsPermutation (map (laid d.first) arrivals) (map (laid d.first) others) → handed ≡ given_on

-- ---- what was refused

-- of each segment of the second list the first has some first bytes, all or none
abbrev pub AreCut : List Arrival → List Arrival → Type 0
AreCut [] [] = Unit {0}
AreCut [] (b ∷ bs) = ⊥
AreCut (a ∷ as') [] = ⊥
AreCut (a ∷ as') (b ∷ bs) =
    (a.due ≡ b.due) × (a.segment.sequence ≡ b.segment.sequence)
    × ((n : ℕ) × (a.segment.bytes ≡ take n b.segment.bytes)) × AreCut as' bs

-- Where segments agree, those of which bytes were refused give what all of them give, or less.
abbrev pub CutGivesLess : Type 0
CutGivesLess = (first : ℕ) (taken all : List Arrival) → Agree first all → AreCut taken all
    → (place b : ℕ) → given first taken place ≡ Some b → given first all place ≡ Some b

-- So what a direction has handed on, to which segments came in part, is a beginning of what all of them give.
abbrev pub CutBegins : Type 0
CutBegins = (d : Direction) (taken all : List Arrival) (base : ℕ) (handed : List ℕ) → Stands d taken base handed
    → Agree d.first all → AreCut taken all → IsFront (given d.first all) base handed
