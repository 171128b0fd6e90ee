-- Where taking bytes can lead.
use Rattle.std.specs.Prelude.{◌≡◌, ℕ, ◌+◌, ◌<◌, ◌≤◌, true, List, ◌++◌, length, take, Result, IfOk, IfErr}
use Rattle.rpc_record.specs.declared.fault.RecordFault.{RecordFault}
use Rattle.rpc_record.specs.declared.fault.RecordFault.TheVariants as fault
use Rattle.rpc_record.specs.declared.fault.RecordStep.{RecordStep}
use Rattle.rpc_record.specs.declared.fault.RecordStep.TheVariants as step
use Rattle.rpc_record.specs.declared.place.Place.{Place}
use Rattle.rpc_record.specs.declared.place.Place.TheVariants as place
use Rattle.rpc_record.specs.declared.reader.RecordReader.{RecordReader}
use Rattle.rpc_record.specs.Marked.{fragment}
use Rattle.rpc_record.specs.Reading.{FaultyIn, IsFeedFault}
use Rattle.rpc_record.specs.Represents.{Represents, IsTaking, IsWaiting, IsBroken, Takes, limit_of}

-- a place that feeding bytes can lead to
abbrev pub IsFedAt : Place → Type 0
IsFedAt (place.Broken f) = IsFeedFault f
IsFedAt _ = Unit {0}

-- a place that a header's or a fragment's bytes lead to, where memory is not refused
abbrev pub IsSteppedAt : Place → Type 0
IsSteppedAt (place.Broken (fault.TooLong at)) = Unit {0}
IsSteppedAt (place.Broken f) = ⊥
IsSteppedAt _ = Unit {0}

-- Where memory was refused now, it was for the record after those handed out, in these bytes.
abbrev pub Refuses : RecordReader → RecordReader → List ℕ → Type 0
Refuses old new more = IsBroken new fault.NoMemory → IsTaking old
    → (bytes : List ℕ) (rs : List (List ℕ)) → Represents old bytes rs
    → FaultyIn old.limit rs fault.NoMemory (length more) (bytes ++ more)

-- it isn't broken, or is so by a fault that feeding bytes can bring
abbrev pub IsFed : RecordReader → Type 0
IsFed reader = IsFedAt reader.place

-- a header's or a fragment's bytes led there, and memory was not refused
abbrev pub IsStepped : RecordReader → Type 0
IsStepped reader = IsSteppedAt reader.place

-- Taking some of a piece: at least one byte and not more than there are. After that the reader stands for these bytes
-- too, where feeding can lead; and memory was refused for them, if it was.
pub record Advances (old new : RecordReader) (piece : List ℕ) (n : ℕ) : Type 0 where
  pub some : 0 < n
  pub within : n ≤ length piece
  pub limit : limit_of new ≡ limit_of old
  pub fed : IsFed new
  pub takes : Takes old new (take n piece)
  pub refuses : Refuses old new (take n piece)

-- Taking a record that is one fragment with this content: it is whole and waits, or memory was refused for it, and the
-- reader stands for its bytes too.
pub record TakesSingle (old new : RecordReader) (content : List ℕ)
    (result : Result RecordStep RecordFault) : Type 0 where
  pub limit : limit_of new ≡ limit_of old
  pub whole : IfOk result (λ s. (s ≡ step.Whole (4 + length content)) × IsWaiting new)
  pub refused : IfErr result (λ f. (f ≡ fault.NoMemory) × (new.place ≡ place.Broken f))
  pub takes : Takes old new (fragment true content)
  pub refuses : Refuses old new (fragment true content)
