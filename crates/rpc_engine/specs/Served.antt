-- What serving has read, done and written (RFC 5531 sections 9 and 11).
use Rattle.std.specs.Prelude.{◌≡◌, ℕ, ◌<◌, ◌≤◌, List, [], ◌∷◌, ◌++◌, length, take, Bool, Option, Result, Ok, Err}
use Rattle.std.specs.Io.KnownBytes.{Appends, Consumes, IsAtEnd}
use Rattle.rpc_record.specs.declared.fault.RecordFault.TheVariants as flaw
use Rattle.rpc_record.specs.Marked.{normal, Longest}
use Rattle.rpc_record.specs.Reading.{IsWhole, IsInside, Begins, TooLongAt, HasNoLong, RefusedIn, capped}
use Rattle.registry_rows.specs.Rows.{Row}
use Rattle.rpc_engine.specs.declared.fault.ServeFault.{ServeFault}
use Rattle.rpc_engine.specs.declared.fault.ServeFault.TheVariants as fault
use Rattle.rpc_engine.specs.declared.fault.Served.{Served}
use Rattle.rpc_engine.specs.Counted.{IsServed}
use Rattle.rpc_engine.specs.Run.{Run}

-- the most bytes of a record (this project's own)
abbrev pub most_record : ℕ
most_record = 65536

-- All was read, it is a stream of records within the limit, and the rows and the output are those of a run along them.
pub record Serves (netid : List ℕ) (rows new : List Row) (left left' taken taken' : Option (List ℕ)) (served : Served)
    : Type 0 where
  pub input : List ℕ
  pub rs : List (List ℕ)
  pub refusals : List Bool
  pub replies : List (List ℕ)
  pub read : Consumes left left' input
  pub end : IsAtEnd left'
  pub whole : IsWhole most_record rs input
  pub run : Run rows netid rs refusals new replies
  pub written : Appends taken taken' (normal replies)
  pub counted : IsServed served rs replies

-- The output was cut at this place, inside the reply to the last record: the replies to those before are whole.
pub record CutLast (netid : List ℕ) (rows : List Row) (rs replies : List (List ℕ)) (w : ℕ) : Type 0 where
  pub before : List (List ℕ)
  pub answering : List ℕ
  pub refusals : List Bool
  pub mid : List Row
  pub others : List (List ℕ)
  pub last : List ℕ
  pub records : rs ≡ before ++ answering ∷ []
  pub run : Run rows netid before refusals mid others
  pub replies_are : replies ≡ others ++ last ∷ []
  pub whole : length (normal others) ≤ w
  pub short : w < length (normal replies)

-- What a fault says of the input, the records that were answered and their replies. Where it ends inside a record no
-- header passed the limit. Where memory was refused it was in the last 4096 bytes, the most that a read gives.
abbrev pub StopsBy : (netid : List ℕ) → List Row → (rs : List (List ℕ)) → (replies : List (List ℕ))
    → (input : List ℕ) → Option (List ℕ) → Option (List ℕ) → Option (List ℕ) → ServeFault → Type 0
StopsBy netid rows rs replies input left' taken taken' (fault.Record (flaw.TooLong at)) =
    TooLongAt most_record rs at input × Longest most_record rs input × Appends taken taken' (normal replies)
StopsBy netid rows rs replies input left' taken taken' (fault.Record (flaw.Truncated at)) =
    (at ≡ capped (length input)) × IsInside most_record rs input × Longest most_record rs input × IsAtEnd left'
    × Appends taken taken' (normal replies) × HasNoLong most_record input
StopsBy netid rows rs replies input left' taken taken' (fault.Record _) = ⊥
StopsBy netid rows rs replies input left' taken taken' (fault.Write written) =
    Begins most_record rs input
    × ((w : ℕ) × (CutLast netid rows rs replies w × (written ≡ capped w)
    × Appends taken taken' (take w (normal replies))))
StopsBy netid rows rs replies input left' taken taken' fault.NoMemory =
    Begins most_record rs input × RefusedIn most_record rs 4096 input × Appends taken taken' (normal replies)
StopsBy netid rows rs replies input left' taken taken' _ =
    Longest most_record rs input × Appends taken taken' (normal replies)

-- Serving stopped: the rows are those of a run along the records that were answered, and the fault says where it ended.
pub record Stops (netid : List ℕ) (rows new : List Row) (left left' taken taken' : Option (List ℕ)) (f : ServeFault)
    : Type 0 where
  pub input : List ℕ
  pub rs : List (List ℕ)
  pub refusals : List Bool
  pub replies : List (List ℕ)
  pub read : Consumes left left' input
  pub run : Run rows netid rs refusals new replies
  pub stopped : StopsBy netid rows rs replies input left' taken taken' f

-- `Read` is one failed read, and the other faults are none
abbrev pub reads_failed : ServeFault → ℕ
reads_failed fault.Read = 1
reads_failed _ = 0

-- how many reads failed before an answer
abbrev pub read_failures : {T : Type 0} → Result T ServeFault → ℕ
read_failures (Ok x) = 0
read_failures (Err f) = reads_failed f

-- `Write` is one failed write, and the other faults are none
abbrev pub writes_failed : ServeFault → ℕ
writes_failed (fault.Write written) = 1
writes_failed _ = 0

-- how many writes failed before an answer
abbrev pub write_failures : {T : Type 0} → Result T ServeFault → ℕ
write_failures (Ok x) = 0
write_failures (Err f) = writes_failed f
