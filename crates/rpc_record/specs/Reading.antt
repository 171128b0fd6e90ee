-- What stands in bytes that are read as records: whole ones, some of the next, and where a fault comes.
use Rattle.std.specs.Prelude.{◌≡◌, ℕ, ◌+◌, ◌-◌, ◌^◌, ◌<◌, ◌≤◌, min, Bool, false, List, ◌++◌, length, All}
use Rattle.std.specs.List.{flat_map, concat}
use Rattle.rpc_record.specs.Marked.{header, fragment, IsContent, Stream, Within, IsUnfinished, Longest}
use Rattle.rpc_record.specs.declared.fault.RecordFault.{RecordFault}
use Rattle.rpc_record.specs.declared.fault.RecordFault.TheVariants as fault

-- a count or a place, where 2^64 - 1 stands for every greater one
abbrev pub capped : ℕ → ℕ
capped n = min n (2 ^ 64 - 1)

-- the bytes are these whole records, each within the limit
pub record IsWhole (limit : ℕ) (rs : List (List ℕ)) (bytes : List ℕ) : Type 0 where
  pub stream : Stream rs bytes
  pub within : Within limit rs

-- The bytes are these whole records, and then fragments of the next, not its last, with this content.
-- All are within the limit.
pub record Upto (limit : ℕ) (rs : List (List ℕ)) (content bytes : List ℕ) : Type 0 where
  pub whole : List ℕ
  pub firsts : List (List ℕ)
  pub stream : Stream rs whole
  pub within : Within limit rs
  pub each : All IsContent firsts
  pub fits : length content ≤ limit
  pub joined : content ≡ concat firsts
  pub spelled : bytes ≡ whole ++ flat_map (fragment false) firsts

-- The header at this place would bring the record above the limit.
pub record TooLongAt (limit : ℕ) (rs : List (List ℕ)) (at : ℕ) (bytes : List ℕ) : Type 0 where
  pub before : List ℕ
  pub content : List ℕ
  pub last : Bool
  pub count : ℕ
  pub more : List ℕ
  pub upto : Upto limit rs content before
  pub place : at ≡ capped (length before)
  pub counted : count < 2 ^ 31
  pub passes : limit < length content + count
  pub spelled : bytes ≡ before ++ (header last count ++ more)

-- The bytes begin with these whole records.
pub record Begins (limit : ℕ) (rs : List (List ℕ)) (bytes : List ℕ) : Type 0 where
  pub whole : List ℕ
  pub more : List ℕ
  pub stream : Stream rs whole
  pub within : Within limit rs
  pub spelled : bytes ≡ whole ++ more

-- The bytes are whole records, and then some of the next, which isn't whole.
pub record IsInside (limit : ℕ) (rs : List (List ℕ)) (bytes : List ℕ) : Type 0 where
  pub whole : List ℕ
  pub part : List ℕ
  pub stream : Stream rs whole
  pub within : Within limit rs
  pub some : 0 < length part
  pub unfinished : IsUnfinished limit part
  pub spelled : bytes ≡ whole ++ part

-- no header in the bytes brings its record above the limit
abbrev pub HasNoLong : ℕ → List ℕ → Type 0
HasNoLong limit bytes = (rs : List (List ℕ)) (at : ℕ) → TooLongAt limit rs at bytes → ⊥

-- At this place, inside the record after these, the input was told to end.
pub record CutAt (limit : ℕ) (rs : List (List ℕ)) (at : ℕ) (bytes : List ℕ) : Type 0 where
  pub here : List ℕ
  pub more : List ℕ
  pub inside : IsInside limit rs here
  pub place : at ≡ capped (length here)
  pub spelled : bytes ≡ here ++ more

-- In the last n bytes memory was refused for the record after these, which had begun before:
-- these are all the whole records of the bytes before those that there was no memory for.
pub record RefusedIn (limit : ℕ) (rs : List (List ℕ)) (n : ℕ) (bytes : List ℕ) : Type 0 where
  pub here : List ℕ
  pub rest : List ℕ
  pub inside : IsInside limit rs here
  pub longest : Longest limit rs here
  pub some : 0 < length rest
  pub few : length rest ≤ n
  pub spelled : bytes ≡ here ++ rest

-- what a fault says of the bytes, where it came in the last n of them
abbrev pub FaultyIn : ℕ → List (List ℕ) → RecordFault → ℕ → List ℕ → Type 0
FaultyIn limit rs (fault.TooLong at) n bytes = TooLongAt limit rs at bytes
FaultyIn limit rs (fault.Truncated at) n bytes = CutAt limit rs at bytes
FaultyIn limit rs fault.NoMemory n bytes = RefusedIn limit rs n bytes
FaultyIn limit rs _ n bytes = Begins limit rs bytes

-- what a fault says of the bytes
abbrev pub Faulty : ℕ → List (List ℕ) → RecordFault → List ℕ → Type 0
Faulty limit rs f bytes = FaultyIn limit rs f (length bytes) bytes

-- However the bytes go on behind a header that passes the limit, it stands where it stands, and the records before it
-- are those of the longest front.
abbrev pub TooLongEnds : Type 0
TooLongEnds = (limit at : ℕ) (rs : List (List ℕ)) (bytes more : List ℕ) → TooLongAt limit rs at bytes
    → TooLongAt limit rs at (bytes ++ more) × Longest limit rs (bytes ++ more)

-- Behind the same records one header passes the limit: its place is one.
abbrev pub OneTooLong : Type 0
OneTooLong = (limit at other : ℕ) (rs : List (List ℕ)) (bytes : List ℕ) → TooLongAt limit rs at bytes
    → TooLongAt limit rs other bytes → at ≡ other

-- Whole records are themselves the longest front.
abbrev pub WholeIsLongest : Type 0
WholeIsLongest = (limit : ℕ) (rs : List (List ℕ)) (bytes : List ℕ) → IsWhole limit rs bytes → Longest limit rs bytes

-- Whole records have no header that passes the limit.
abbrev pub WholeHasNoLong : Type 0
WholeHasNoLong = (limit : ℕ) (rs : List (List ℕ)) (bytes : List ℕ) → IsWhole limit rs bytes → HasNoLong limit bytes

-- Where a fault came, the bytes begin with the records before it.
abbrev pub FaultsBegin : Type 0
FaultsBegin = (limit : ℕ) (rs : List (List ℕ)) (f : RecordFault) (bytes : List ℕ) → Faulty limit rs f bytes
    → Begins limit rs bytes

-- a fault that feeding bytes can bring
abbrev pub IsFeedFault : RecordFault → Type 0
IsFeedFault (fault.TooLong at) = Unit {0}
IsFeedFault fault.NoMemory = Unit {0}
IsFeedFault _ = ⊥
