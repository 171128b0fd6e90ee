-- What a stream of records has read and handed out.
use Rattle.std.specs.Prelude.{◌≡◌, ℕ, ◌+◌, ◌-◌, ◌*◌, List, [], ◌∷◌, ◌++◌, length, take, drop}
use Rattle.std.specs.Prelude.{Option, Some, None, Result, Ok, Err, Bool, true, false}
use Rattle.std.specs.declared.vec.Vec.{Vec}
use Rattle.std.specs.declared.alloc.Global.{Global}
use Rattle.std.specs.Io.KnownBytes.{Consumes, IsAtEnd}
use Rattle.xdr_io.specs.declared.input.TheConstants.{MOST_READS}
use Rattle.rpc_record.specs.declared.fault.RecordFault.{RecordFault}
use Rattle.rpc_record.specs.declared.fault.RecordFault.TheVariants as fault
use Rattle.rpc_record.specs.declared.reader.RecordReader.{RecordReader}
use Rattle.rpc_record.specs.declared.stream.RecordStream.{RecordStream}
use Rattle.rpc_record.specs.Marked.{Longest}
use Rattle.rpc_record.specs.Reading.{IsWhole, IsInside, Begins, TooLongAt, HasNoLong, RefusedIn, capped}
use Rattle.rpc_record.specs.Represents.{Represents, IsTaking, limit_of}

-- the bytes that were read and not yet taken
abbrev pub held : RecordStream → List ℕ
held stream = drop stream.at (take stream.size stream.piece)

-- how many reads were made
abbrev pub reads_of : RecordStream → ℕ
reads_of stream = stream.reads

-- no fault was answered
abbrev pub IsOpen : RecordStream → Type 0
IsOpen stream = IsTaking stream.records

-- Some bytes were read. A record reader with this limit has taken all of them but those that are held, and these are
-- the records that it has handed out.
pub record HasTaken (limit : ℕ) (reader : RecordReader) (waiting : List ℕ) (rs : List (List ℕ))
    (left left' : Option (List ℕ)) : Type 0 where
  pub input : List ℕ
  pub fed : List ℕ
  pub read : Consumes left left' input
  pub joined : input ≡ fed ++ waiting
  pub same : limit_of reader ≡ limit
  pub taking : IsTaking reader
  pub represents : Represents reader fed rs
  pub begins : Begins limit rs input

-- The stream has read some bytes of a source, and these are the records that it has handed out.
abbrev pub HasRead : ℕ → RecordStream → List (List ℕ) → Option (List ℕ) → Option (List ℕ) → Type 0
HasRead limit stream rs left left' = HasTaken limit stream.records (held stream) rs left left'

-- a bound on the records that are still to come: the reads that are left, and the bytes that are held
abbrev pub most_to_come : RecordStream → ℕ
most_to_come stream = (MOST_READS - stream.reads) * 4097 + (stream.size - stream.at)

-- All was read, and it is these records: no more are whole in it, and no header passed the limit.
pub record IsRead (limit : ℕ) (rs : List (List ℕ)) (left left' : Option (List ℕ)) : Type 0 where
  pub input : List ℕ
  pub read : Consumes left left' input
  pub end : IsAtEnd left'
  pub whole : IsWhole limit rs input
  pub longest : Longest limit rs input
  pub no_long : HasNoLong limit input

-- What a fault says of what was read behind these records. Where it ends inside a record, and where a read failed or
-- there are too many, no header passed the limit. Where memory was refused it was in the last 4096 bytes, the most that
-- a read gives.
abbrev pub FailsAt : ℕ → List (List ℕ) → List ℕ → Option (List ℕ) → RecordFault → Type 0
FailsAt limit rs input left' (fault.TooLong at) = TooLongAt limit rs at input × Longest limit rs input
FailsAt limit rs input left' (fault.Truncated at) =
    (at ≡ capped (length input)) × IsInside limit rs input × Longest limit rs input × IsAtEnd left'
    × HasNoLong limit input
FailsAt limit rs input left' fault.NoMemory = Begins limit rs input × RefusedIn limit rs 4096 input
FailsAt limit rs input left' fault.Read = Longest limit rs input × HasNoLong limit input
FailsAt limit rs input left' fault.TooManyReads = Longest limit rs input × HasNoLong limit input
FailsAt limit rs input left' (fault.Write written) = ⊥

-- A fault came behind these records.
pub record Fails (limit : ℕ) (rs : List (List ℕ)) (left left' : Option (List ℕ)) (f : RecordFault) : Type 0 where
  pub input : List ℕ
  pub read : Consumes left left' input
  pub fails : FailsAt limit rs input left' f

-- What asking for the next record of the bytes that are held does. It is handed out; or none is whole, and all were
-- taken; or a fault came.
abbrev pub HandsOf : RecordReader → List ℕ → RecordReader → List ℕ → Result (Option (Vec ℕ Global)) RecordFault → Type 0
HandsOf old waiting new waiting' (Ok (Some v)) = (limit : ℕ) (rs : List (List ℕ)) (left left' : Option (List ℕ))
    → HasTaken limit old waiting rs left left' → HasTaken limit new waiting' (rs ++ v.items ∷ []) left left'
HandsOf old waiting new waiting' (Ok None) =
    (waiting' ≡ []) × ((limit : ℕ) (rs : List (List ℕ)) (left left' : Option (List ℕ))
    → HasTaken limit old waiting rs left left' → HasTaken limit new waiting' rs left left')
HandsOf old waiting new waiting' (Err f) = (limit : ℕ) (rs : List (List ℕ)) (left left' : Option (List ℕ))
    → HasTaken limit old waiting rs left left' → Fails limit rs left left' f

-- what was handed out where the record, if there is one, stands in this buffer
abbrev pub handed : Result Bool RecordFault → Vec ℕ Global → Result (Option (Vec ℕ Global)) RecordFault
handed (Ok true) buffer = Ok (Some buffer)
handed (Ok false) buffer = Ok None
handed (Err f) buffer = Err f

-- the same for a stream
abbrev pub HandsHeld : RecordStream → RecordStream → Result (Option (Vec ℕ Global)) RecordFault → Type 0
HandsHeld old new result = HandsOf old.records (held old) new.records (held new) result

-- What asking for the next record says of what was read since the stream's start. It is handed out; or the input has
-- ended between two records; or a fault came.
abbrev pub HandsNext : ℕ → RecordStream → List (List ℕ) → Option (List ℕ) → Option (List ℕ)
    → Result (Option (Vec ℕ Global)) RecordFault → Type 0
HandsNext limit new rs left left' (Ok (Some v)) = HasRead limit new (rs ++ v.items ∷ []) left left'
HandsNext limit new rs left left' (Ok None) = IsRead limit rs left left'
HandsNext limit new rs left left' (Err f) = Fails limit rs left left' f
