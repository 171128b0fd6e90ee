-- The byte lists, and the records handed out, that a record reader stands for.
use Rattle.std.specs.Prelude.{◌≡◌, ℕ, ◌≤◌, ◌<◌, List, [], ◌++◌, length, take, Ok, Err, Result, Some, None, Option, ◌∷◌}
use Rattle.std.specs.Prelude.{◌⊎◌, IfSome}
use Rattle.std.specs.declared.vec.Vec.{Vec}
use Rattle.std.specs.declared.alloc.Global.{Global}
use Rattle.rpc_record.specs.declared.fault.RecordFault.TheVariants as fault
use Rattle.rpc_record.specs.declared.reader.RecordReader.{RecordReader}
use Rattle.rpc_record.specs.declared.place.Place.TheVariants as place
use Rattle.rpc_record.specs.declared.fault.RecordFault.{RecordFault}
use Rattle.rpc_record.specs.declared.fault.RecordStep.{RecordStep}
use Rattle.rpc_record.specs.declared.fault.RecordStep.TheVariants as step
use Rattle.rpc_record.specs.Marked.{Longest}
use Rattle.rpc_record.specs.Reading.{capped, IsWhole, IsInside, HasNoLong, Faulty, FaultyIn, IsFeedFault}
use Rattle.rpc_record.specs.Fields.{StandsAt, IsTakingAt, IsBrokenAt}

-- The reader has taken these bytes and has handed out these records.
abbrev pub Represents : RecordReader → List ℕ → List (List ℕ) → Type 0
Represents reader bytes rs = StandsAt reader.limit reader.place reader.content.items reader.taken bytes rs

abbrev pub limit_of : RecordReader → ℕ
limit_of reader = reader.limit

-- it is between two records or inside one
abbrev pub IsTaking : RecordReader → Type 0
IsTaking reader = IsTakingAt reader.place

-- it is between two records
abbrev pub IsBetween : RecordReader → Type 0
IsBetween reader = reader.place ≡ place.Between

-- a whole record waits
abbrev pub IsWaiting : RecordReader → Type 0
IsWaiting reader = reader.place ≡ place.Whole

-- this fault was answered
abbrev pub IsBroken : RecordReader → RecordFault → Type 0
IsBroken reader f = IsBrokenAt reader.place f

-- Whatever the old reader stood for, the new one stands for with these bytes taken.
abbrev pub Takes : RecordReader → RecordReader → List ℕ → Type 0
Takes old new more = (bytes : List ℕ) (rs : List (List ℕ)) → Represents old bytes rs → Represents new (bytes ++ more) rs

-- The reader has handed these records out too, and has taken these bytes.
abbrev pub Moves : RecordReader → RecordReader → List ℕ → List (List ℕ) → Type 0
Moves old new piece more = (bytes : List ℕ) (rs : List (List ℕ)) → Represents old bytes rs
    → Represents new (bytes ++ piece) (rs ++ more)

-- what feeding a piece does
abbrev pub Feeds : RecordReader → RecordReader → List ℕ → Result RecordStep RecordFault → Type 0
Feeds old new piece (Ok step.More) = IsTaking new × Takes old new piece
Feeds old new piece (Ok (step.Whole used)) =
    IsWaiting new × (used ≤ length piece) × Takes old new (take used piece) × (IsTaking old → 0 < used)
Feeds old new piece (Err f) = IsBroken new f × Takes old new piece × (IsTaking old → IsFeedFault f)

-- what feeding a piece does where a record that is whole then is handed out
abbrev pub Fills : RecordReader → RecordReader → List ℕ → (r : List ℕ) → Result RecordStep RecordFault → Type 0
Fills old new piece r (Ok step.More) = IsTaking new × Takes old new piece
Fills old new piece r (Ok (step.Whole used)) =
    IsBetween new × (used ≤ length piece) × Moves old new (take used piece) (r ∷ []) × (IsTaking old → 0 < used)
Fills old new piece r (Err f) = IsBroken new f × Takes old new piece × (IsTaking old → IsFeedFault f)

-- whatever bytes the reader has taken and whatever records it has handed out, this holds of them
abbrev pub Always : RecordReader → (List (List ℕ) → List ℕ → Type 0) → Type 0
Always reader P = (bytes : List ℕ) (rs : List (List ℕ)) → Represents reader bytes rs → P rs bytes

-- Whatever bytes the reader had taken and whatever records it had handed out, this holds of those records and of those
-- bytes with these behind.
abbrev pub After : RecordReader → List ℕ → (List (List ℕ) → List ℕ → Type 0) → Type 0
After old more P = (bytes : List ℕ) (rs : List (List ℕ)) → Represents old bytes rs → P rs (bytes ++ more)

-- What the answer to a piece says of the bytes taken. `More`: the records handed out are all that are whole, and no
-- header passes the limit. `Whole`: the bytes are the records handed out and one more. A fault: what it says of them,
-- and that it came in this piece where none had come before.
abbrev pub Reports : RecordReader → List ℕ → Result RecordStep RecordFault → Type 0
Reports old piece (Ok step.More) = After old piece (λ rs bytes. Longest old.limit rs bytes × HasNoLong old.limit bytes)
Reports old piece (Ok (step.Whole used)) =
    After old (take used piece) (λ rs bytes. (r : List ℕ) × IsWhole old.limit (rs ++ r ∷ []) bytes)
Reports old piece (Err f) =
    After old piece (λ rs bytes.
    Faulty old.limit rs f bytes × (IsTaking old → FaultyIn old.limit rs f (length piece) bytes))

-- the bytes taken are the records handed out before and this one, where one was
abbrev pub IsFilled : RecordReader → List ℕ → (r : List ℕ) → Result RecordStep RecordFault → Type 0
IsFilled old piece r (Ok (step.Whole used)) =
    After old (take used piece) (λ rs bytes. IsWhole old.limit (rs ++ r ∷ []) bytes)
IsFilled old piece r _ = Unit {0}

-- A broken reader answers its fault, and one where a record waits takes nothing.
pub record Stays (old : RecordReader) (result : Result RecordStep RecordFault) : Type 0 where
  pub broken : (f : RecordFault) → IsBroken old f → result ≡ Err f
  pub waiting : IsWaiting old → result ≡ Ok (step.Whole 0)

-- what handing out does
abbrev pub Hands : RecordReader → RecordReader → Option (Vec ℕ Global) → Type 0
Hands old new (Some v) =
    IsWaiting old × IsBetween new
    × ((bytes : List ℕ) (rs : List (List ℕ)) → Represents old bytes rs → Represents new bytes (rs ++ v.items ∷ []))
Hands old new None = (IsWaiting old → ⊥) × (new ≡ old)

-- the bytes taken are the records handed out before and this one, where one is
abbrev pub IsHanded : RecordReader → Option (Vec ℕ Global) → Type 0
IsHanded old handed =
    IfSome handed (λ v. Always old (λ rs bytes. IsWhole (limit_of old) (rs ++ v.items ∷ []) bytes))

-- the answer is this place, inside a record
abbrev pub TruncatedAt : RecordReader → RecordFault → Type 0
TruncatedAt old (fault.Truncated at) = (bytes : List ℕ) (rs : List (List ℕ)) → Represents old bytes rs
    → (at ≡ capped (length bytes)) × IsInside (limit_of old) rs bytes
TruncatedAt old _ = ⊥

-- what ending does
abbrev pub Ends : RecordReader → RecordReader → Result (Unit {0}) RecordFault → Type 0
Ends old new (Ok u) = (IsBetween old ⊎ IsWaiting old) × (new ≡ old)
Ends old new (Err f) = IsBroken new f × Takes old new [] × (IsBroken old f ⊎ (IsTaking old × TruncatedAt old f))

-- What the answer to the input's end says of the bytes taken. Ok: they are the records handed out and at most one more,
-- which waits; so where bytes are taken, no more.
-- A fault: what it says of them, and where none had come before that it is `Truncated` at their count, inside a record.
abbrev pub Concludes : RecordReader → Result (Unit {0}) RecordFault → Type 0
Concludes old (Ok u) =
    Always old (λ rs bytes. (waits : List (List ℕ))
    × ((length waits ≤ 1) × IsWhole old.limit (rs ++ waits) bytes × (IsTaking old → waits ≡ [])))
Concludes old (Err f) =
    Always old (λ rs bytes. Faulty old.limit rs f bytes
    × (IsTaking old → (f ≡ fault.Truncated (capped (length bytes))) × IsInside old.limit rs bytes))
