-- What feeding a piece of a stream of records does (RFC 5531 section 11).
use Rattle.std.specs.Prelude.{◌≡◌, ◌≤◌, ◌<◌, ℕ, List, [], ◌∷◌, ◌++◌, length, take, Option, Some, None}
use Rattle.rpc_record.specs.Marked.{Longest}
use Rattle.rpc_record.specs.Reading.{IsWhole, HasNoLong, Faulty, FaultyIn, IsFeedFault}
use Rattle.rpc_record.specs.declared.fault.RecordFault.{RecordFault}
use Rattle.c_records.specs.declared.answer.Answer.{Answer}
use Rattle.c_records.specs.declared.answer.Answer.TheVariants as answer
use Rattle.c_records.specs.Held.{Held, limit_of, IsTaking, Waits, IsBroken, Takes, After}

-- The bytes up to a record's last were taken: they are the records handed out and this one, which waits.
pub record IsRead (h : Held) (piece : List ℕ) (left : Held) (count : ℕ) : Type 0 where
  pub content : List ℕ
  pub waits : Waits left content
  pub within : count ≤ length piece
  pub some : IsTaking h → 0 < count
  pub takes : Takes h left (take count piece)
  pub whole : After h (take count piece) (λ rs bytes. IsWhole (limit_of h) (rs ++ content ∷ []) bytes)

-- All was taken: the records handed out are all that are whole, and no header passes the limit.
pub record WantsMore (h : Held) (piece : List ℕ) (left : Held) : Type 0 where
  pub taking : IsTaking left
  pub takes : Takes h left piece
  pub longest : After h piece (λ rs bytes. Longest (limit_of h) rs bytes)
  pub short : After h piece (λ rs bytes. HasNoLong (limit_of h) bytes)

-- The stream is refused for this fault, which came in this piece where none had come before.
pub record IsRefused (h : Held) (piece : List ℕ) (left : Held) (f : RecordFault) : Type 0 where
  pub broken : IsBroken left f
  pub takes : Takes h left piece
  pub says : After h piece (λ rs bytes. Faulty (limit_of h) rs f bytes)
  pub kind : IsTaking h → IsFeedFault f
  pub here : IsTaking h → After h piece (λ rs bytes. FaultyIn (limit_of h) rs f (length piece) bytes)

-- what a piece does where no record waits
abbrev pub IsFedTo : (h : Held) → (piece : List ℕ) → (left : Held) → Answer → Type 0
IsFedTo h piece left (answer.Whole count) = IsRead h piece left count
IsFedTo h piece left answer.More = WantsMore h piece left
IsFedTo h piece left (answer.Refused f) = IsRefused h piece left f
IsFedTo h piece left _ = ⊥

-- nothing is taken while a record waits
abbrev pub IsFedAs : (waits : Option (List ℕ)) → (h : Held) → (piece : List ℕ) → (left : Held) → Answer → Type 0
IsFedAs (Some r) h piece left a = (a ≡ answer.Whole 0) × (left ≡ h)
IsFedAs None h piece left a = IsFedTo h piece left a

-- A piece is fed to a reader. A fault that was answered is answered again.
pub record IsFed (h : Held) (piece : List ℕ) (left : Held) (a : Answer) : Type 0 where
  pub limit : limit_of left ≡ limit_of h
  pub fed : IsFedAs h.waits h piece left a
  pub again : (f : RecordFault) → IsBroken h f → a ≡ answer.Refused f

-- the same of a handle
abbrev pub IsFedBy : (held : Option Held) → (piece : List ℕ) → (left : Option Held) → Answer → Type 0
IsFedBy None piece left a = (a ≡ answer.NoReader) × (left ≡ None)
IsFedBy (Some h) piece left a = (l : Held) × (left ≡ Some l) × IsFed h piece l a
