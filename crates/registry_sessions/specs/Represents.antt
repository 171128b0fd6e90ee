-- What a session stands for: the bytes that it has taken, the records that it has answered, and what of their replies
-- waits to be written. Callers never unfold it.
use Rattle.std.specs.Prelude.{◌≡◌, ℕ, ◌+◌, ◌≤◌, ◌<◌, Bool, List, [], ◌∷◌, ◌++◌, length, take, drop, Option, Some, None}
use Rattle.std.specs.Prelude.{Result, Ok, Err, IfOk, IfErr, vec_len}
use Rattle.rpc_record.specs.declared.fault.RecordFault.TheVariants as flaw
use Rattle.rpc_record.specs.Marked.{normal, Longest}
use Rattle.rpc_record.specs.Reading.{IsWhole, IsInside, RefusedIn, TooLongAt, capped}
use Rattle.rpc_record.specs.Represents as reader
use Rattle.registry_rows.specs.Rows.{Row}
use Rattle.registry_callers.specs.From.{AnswerFrom}
use Rattle.registry_sessions.specs.declared.origin.Origin.{Origin}
use Rattle.registry_answer.specs.Views.{netid_of}
use Rattle.rpc_engine.specs.Run.{listed}
use Rattle.rpc_engine.specs.Served.{most_record}
use Rattle.registry_sessions.specs.declared.fault.SessionFault.{SessionFault}
use Rattle.registry_sessions.specs.declared.fault.SessionFault.TheVariants as fault
use Rattle.registry_sessions.specs.declared.fault.Taken.{Taken}
use Rattle.registry_sessions.specs.declared.fault.Taken.TheVariants as taken
use Rattle.registry_sessions.specs.declared.session.Session.{Session}

-- the bytes that wait to be written
abbrev pub output_of : Session → List ℕ
output_of s = drop s.sent s.output.items

-- with more bytes than these waiting it takes nothing
abbrev pub bound_of : Session → ℕ
bound_of s = s.bound

-- where its bytes come from
abbrev pub origin_of : Session → Origin
origin_of s = s.origin

-- how many bytes it keeps: of a record that is not whole, and of replies
abbrev pub kept_of : Session → ℕ
kept_of s = vec_len s.records.content + vec_len s.output

-- more bytes than the bound wait
abbrev pub IsFull : Session → Type 0
IsFull s = s.bound < length (output_of s)

-- the fault that was answered, if one was
abbrev pub fault_in : Session → Option SessionFault
fault_in s = s.fault

-- this fault was answered
abbrev pub IsBroken : Session → SessionFault → Type 0
IsBroken s f = s.fault ≡ Some f

-- The session, in which no fault came, has taken these bytes and answered these records.
pub record HasRead (s : Session) (bytes : List ℕ) (rs : List (List ℕ)) : Type 0 where
  pub sound : s.fault ≡ None
  pub taking : reader.IsTaking s.records
  pub limit : reader.limit_of s.records ≡ most_record
  pub represents : reader.Represents s.records bytes rs

-- Its replies were these: writes took so many of their bytes as fragments, and the others wait.
pub record Holds (s : Session) (replies : List (List ℕ)) (count : ℕ) : Type 0 where
  pub few : count ≤ length (normal replies)
  pub waits : output_of s ≡ drop count (normal replies)

-- whatever was taken and answered, these bytes and these records too were
abbrev pub Reads : Session → Session → List ℕ → List (List ℕ) → Type 0
Reads old new piece more = (bytes : List ℕ) (rs : List (List ℕ)) → HasRead old bytes rs
    → HasRead new (bytes ++ piece) (rs ++ more)

-- whatever its replies were and writes took, these are its replies too
abbrev pub Replies : Session → Session → List (List ℕ) → Type 0
Replies old new more = (replies : List (List ℕ)) (count : ℕ) → Holds old replies count
    → Holds new (replies ++ more) count

-- A record was whole with these bytes, of which the last is its last, and it was answered: the new rows, and its reply
-- behind those that wait.
pub record Answers (old new : Session) (rows after : List Row) (bytes : List ℕ) : Type 0 where
  pub message : List ℕ
  pub refused : Bool
  pub sent : Option (List ℕ)
  pub answer : AnswerFrom (origin_of old).caller rows (netid_of (origin_of old).transport) message refused after sent
  pub ends : (before : List ℕ) (rs : List (List ℕ)) → HasRead old before rs
      → IsWhole most_record (rs ++ message ∷ []) (before ++ bytes)
  pub reads : Reads old new bytes (message ∷ [])
  pub replies : Replies old new (listed sent)

-- what taking bytes of a piece does
abbrev pub Takes : Session → Session → (rows after : List Row) → (piece : List ℕ) → Taken → Type 0
Takes old new rows after piece taken.More =
    (after ≡ rows) × Reads old new piece [] × Replies old new [] × (output_of new ≡ output_of old)
Takes old new rows after piece (taken.Answered used) =
    (used ≤ length piece) × ((bytes : List ℕ) (rs : List (List ℕ)) → HasRead old bytes rs → 0 < used)
    × Answers old new rows after (take used piece)
Takes old new rows after piece taken.Full = (after ≡ rows) × (new ≡ old) × IsFull old

-- What a fault that bytes bring says of the records that were answered, and of the bytes, of which the last n came with
-- it. `TooLong`: a header passes the limit. `NoMemory`: memory was refused for the record after these, in the last n.
abbrev pub Flawed : List (List ℕ) → SessionFault → (n : ℕ) → List ℕ → Type 0
Flawed rs (fault.Record (flaw.TooLong at)) n bytes = TooLongAt most_record rs at bytes × Longest most_record rs bytes
Flawed rs fault.NoMemory n bytes = RefusedIn most_record rs n bytes
Flawed rs _ n bytes = ⊥

-- A fault came: the rows and the output stay, and where none had come before it says what stands in the bytes.
pub record Breaks (old new : Session) (rows after : List Row) (piece : List ℕ) (f : SessionFault) : Type 0 where
  pub broken : IsBroken new f
  pub same_rows : after ≡ rows
  pub same_output : output_of new ≡ output_of old
  pub flawed : (bytes : List ℕ) (rs : List (List ℕ)) → HasRead old bytes rs
      → Flawed rs f (length piece) (bytes ++ piece)

-- A broken session answers its fault, and nothing changes. One above its bound takes nothing.
pub record Stays (old new : Session) (result : Result Taken SessionFault) : Type 0 where
  pub broken : (f : SessionFault) → IsBroken old f → (result ≡ Err f) × (new ≡ old)
  pub full : old.fault ≡ None → IsFull old → result ≡ Ok taken.Full

-- All of this, of an answer to a piece.
pub record TakesIn (old new : Session) (rows after : List Row) (piece : List ℕ) (result : Result Taken SessionFault)
    : Type 0 where
  pub taken : IfOk result (λ t. Takes old new rows after piece t)
  pub fault : IfErr result (λ f. Breaks old new rows after piece f)
  pub stays : Stays old new result
  pub same_origin : origin_of new ≡ origin_of old

-- What a write of so many bytes does: whatever was read stays, and so many more of the replies' bytes were taken.
pub record Took (old new : Session) (n : ℕ) : Type 0 where
  pub same_fault : new.fault ≡ old.fault
  pub same_origin : origin_of new ≡ origin_of old
  pub reads : (bytes : List ℕ) (rs : List (List ℕ)) → HasRead old bytes rs → HasRead new bytes rs
  pub replies : (replies : List (List ℕ)) (count : ℕ) → Holds old replies count → Holds new replies (count + n)

-- What the end of the bytes says of them: no fault came, and they are the records that were answered; or they end
-- inside another. An earlier fault is answered again.
abbrev pub Concludes : Session → Session → Result (Unit {0}) SessionFault → Type 0
Concludes old new (Ok u) =
    (new ≡ old) × (old.fault ≡ None)
    × ((bytes : List ℕ) (rs : List (List ℕ)) → HasRead old bytes rs → IsWhole most_record rs bytes)
Concludes old new (Err f) =
    IsBroken new f × (origin_of new ≡ origin_of old) × ((g : SessionFault) → IsBroken old g → new ≡ old)
    × ((bytes : List ℕ) (rs : List (List ℕ)) → HasRead old bytes rs
    → (f ≡ fault.Record (flaw.Truncated (capped (length bytes)))) × IsInside most_record rs bytes)
