-- What the functions below `serve` do: steps between the code and what its public contract says.
use Rattle.std.specs.Prelude.{◌≡◌, ℕ, ◌+◌, ◌<◌, true, List, [], ◌∷◌, ◌++◌, length, take, Bool, Option, Some}
use Rattle.std.specs.Io.KnownBytes.{Appends}
use Rattle.rpc_record.specs.declared.fault.RecordFault.TheVariants as flaw
use Rattle.rpc_record.specs.declared.fault.RecordFault.{RecordFault}
use Rattle.rpc_record.specs.Marked.{normal, fragment}
use Rattle.rpc_record.specs.Reading.{capped}
use Rattle.registry_rows.specs.Rows.{Row}
use Rattle.registry_answer.specs.Answer.{Answer}
use Rattle.rpc_engine.specs.declared.fault.ServeFault.{ServeFault}
use Rattle.rpc_engine.specs.declared.fault.ServeFault.TheVariants as fault
use Rattle.rpc_engine.specs.declared.session.Session.{Session}
use Rattle.rpc_engine.specs.declared.fault.Served.{Served}
use Rattle.rpc_engine.specs.Counted.{IsServed}
use Rattle.rpc_engine.specs.Run.{Run}

-- the counts of these records and replies, and of the bytes of the replies as fragments
pub record IsCounted (served : Served) (written : ℕ) (rs replies : List (List ℕ)) : Type 0 where
  pub served_is : IsServed served rs replies
  pub bytes : written ≡ capped (length (normal replies))

-- the counts of a session are those of these records and replies
abbrev pub HasCounted : Session → List (List ℕ) → List (List ℕ) → Type 0
HasCounted s rs replies = IsCounted s.served s.written rs replies

-- the counts go on
abbrev pub CountsOn : Session → Session → List (List ℕ) → List (List ℕ) → Type 0
CountsOn old new more others = (rs replies : List (List ℕ)) → HasCounted old rs replies
    → HasCounted new (rs ++ more) (replies ++ others)

-- These records were answered, and their replies went out.
pub record Does (netid : List ℕ) (rows new : List Row) (old session : Session) (more : List (List ℕ))
    (taken taken' : Option (List ℕ)) : Type 0 where
  pub refusals : List Bool
  pub others : List (List ℕ)
  pub run : Run rows netid more refusals new others
  pub counts : CountsOn old session more others
  pub wrote : Appends taken taken' (normal others)

-- These records were answered, and a write failed while the reply to the last went out.
pub record Loses (netid : List ℕ) (rows new : List Row) (old : Session) (more : List (List ℕ))
    (taken taken' : Option (List ℕ)) (written : ℕ) : Type 0 where
  pub before : List (List ℕ)
  pub answering : List ℕ
  pub refusals : List Bool
  pub mid : List Row
  pub others : List (List ℕ)
  pub refused : Bool
  pub last : List ℕ
  pub went : ℕ
  pub records : more ≡ before ++ answering ∷ []
  pub run : Run rows netid before refusals mid others
  pub answer : Answer mid netid answering refused new (Some last)
  pub short : went < length (fragment true last)
  pub place : (rs replies : List (List ℕ)) → HasCounted old rs replies
      → written ≡ capped (length (normal replies) + (length (normal others) + went))
  pub wrote : Appends taken taken' (normal others ++ take went (fragment true last))

-- a fault of a record's answer is a failed write
abbrev pub LosesBy : List ℕ → List Row → List Row → Session → List (List ℕ) → Option (List ℕ) → Option (List ℕ)
    → ServeFault → Type 0
LosesBy netid rows new old more taken taken' (fault.Write written) = Loses netid rows new old more taken taken' written
LosesBy netid rows new old more taken taken' _ = ⊥

-- what a fault of the record reader is to the server
abbrev pub fault_of : RecordFault → ServeFault
fault_of flaw.Read = fault.Read
fault_of flaw.TooManyReads = fault.TooManyReads
fault_of flaw.NoMemory = fault.NoMemory
fault_of f = fault.Record f
