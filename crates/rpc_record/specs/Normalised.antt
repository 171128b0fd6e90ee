-- What normalising has read and written.
use Rattle.std.specs.Prelude.{◌≡◌, ℕ, ◌<◌, List, length, take, Option}
use Rattle.std.specs.Io.KnownBytes.{Appends, Consumes, IsAtEnd}
use Rattle.rpc_record.specs.declared.fault.RecordFault.{RecordFault}
use Rattle.rpc_record.specs.declared.fault.RecordFault.TheVariants as fault
use Rattle.rpc_record.specs.declared.fault.Count.{Count}
use Rattle.rpc_record.specs.Marked.{normal, Longest}
use Rattle.rpc_record.specs.Reading.{IsWhole, IsInside, Begins, TooLongAt, HasNoLong, RefusedIn, capped}

-- the count of these records, and of the bytes of their normal form
pub record IsCount (count : Count) (rs : List (List ℕ)) : Type 0 where
  pub records : count.records ≡ capped (length rs)
  pub bytes : count.bytes ≡ capped (length (normal rs))

-- All was read, it is a stream of records within the limit, and its normal form was written.
pub record Normalised (limit : ℕ) (left left' taken taken' : Option (List ℕ)) (count : Count) : Type 0 where
  pub input : List ℕ
  pub rs : List (List ℕ)
  pub read : Consumes left left' input
  pub end : IsAtEnd left'
  pub whole : IsWhole limit rs input
  pub written : Appends taken taken' (normal rs)
  pub counted : IsCount count rs

-- What a fault says of what was read, and what was written. Where it ends inside a record no header passed the limit.
-- Where memory was refused it was in the last 4096 bytes, the most that a read gives.
abbrev pub StopsBy : ℕ → List (List ℕ) → List ℕ → Option (List ℕ) → Option (List ℕ) → Option (List ℕ) → RecordFault
    → Type 0
StopsBy limit rs input left' taken taken' (fault.TooLong at) =
    TooLongAt limit rs at input × Longest limit rs input × Appends taken taken' (normal rs)
StopsBy limit rs input left' taken taken' (fault.Truncated at) =
    (at ≡ capped (length input)) × IsInside limit rs input × Longest limit rs input × IsAtEnd left'
    × Appends taken taken' (normal rs) × HasNoLong limit input
StopsBy limit rs input left' taken taken' (fault.Write written) =
    Begins limit rs input
    × ((w : ℕ) × ((w < length (normal rs)) × (written ≡ capped w) × Appends taken taken' (take w (normal rs))))
StopsBy limit rs input left' taken taken' fault.NoMemory =
    Begins limit rs input × RefusedIn limit rs 4096 input × Appends taken taken' (normal rs)
StopsBy limit rs input left' taken taken' _ = Longest limit rs input × Appends taken taken' (normal rs)

pub record Stops (limit : ℕ) (left left' taken taken' : Option (List ℕ)) (f : RecordFault) : Type 0 where
  pub input : List ℕ
  pub rs : List (List ℕ)
  pub read : Consumes left left' input
  pub stopped : StopsBy limit rs input left' taken taken' f
