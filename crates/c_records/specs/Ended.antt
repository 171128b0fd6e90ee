-- What the stream's end does.
use Rattle.std.specs.Prelude.{◌≡◌, ◌⊎◌, ℕ, List, [], Option, Some, None, length}
use Rattle.rpc_record.specs.Reading.{IsWhole, IsInside, Faulty, capped}
use Rattle.rpc_record.specs.declared.fault.RecordFault.{RecordFault}
use Rattle.rpc_record.specs.declared.fault.RecordFault.TheVariants as fault
use Rattle.c_records.specs.declared.answer.Answer.{Answer}
use Rattle.c_records.specs.declared.answer.Answer.TheVariants as answer
use Rattle.c_records.specs.Held.{Held, limit_of, IsTaking, IsBroken, Takes, Always}

-- the fault is this place, inside a record
abbrev pub IsCut : Held → RecordFault → Type 0
IsCut h (fault.Truncated at) =
    Always h (λ rs bytes. (at ≡ capped (length bytes)) × IsInside (limit_of h) rs bytes)
IsCut h _ = ⊥

-- The stream is refused: it ends inside a record, or a fault was answered before.
pub record IsBad (h left : Held) (f : RecordFault) : Type 0 where
  pub broken : IsBroken left f
  pub stays : Takes h left []
  pub says : Always h (λ rs bytes. Faulty (limit_of h) rs f bytes)
  pub why : IsBroken h f ⊎ (IsTaking h × IsCut h f)

-- what the end does where no record waits; it is well between two records
abbrev pub IsEndedTo : (h left : Held) → Answer → Type 0
IsEndedTo h left (answer.Whole count) =
    (count ≡ 0) × (left ≡ h) × (IsTaking h → Always h (λ rs bytes. IsWhole (limit_of h) rs bytes))
IsEndedTo h left (answer.Refused f) = IsBad h left f
IsEndedTo h left _ = ⊥

-- it is well behind a record that waits, too
abbrev pub IsEndedAs : (waits : Option (List ℕ)) → (h left : Held) → Answer → Type 0
IsEndedAs (Some r) h left a = (a ≡ answer.Whole 0) × (left ≡ h)
IsEndedAs None h left a = IsEndedTo h left a

-- The stream ends. A fault that was answered is answered again.
pub record IsEnded (h left : Held) (a : Answer) : Type 0 where
  pub limit : limit_of left ≡ limit_of h
  pub ended : IsEndedAs h.waits h left a
  pub again : (f : RecordFault) → IsBroken h f → a ≡ answer.Refused f

-- the same of a handle
abbrev pub IsEndedBy : (held left : Option Held) → Answer → Type 0
IsEndedBy None left a = (a ≡ answer.NoReader) × (left ≡ None)
IsEndedBy (Some h) left a = (l : Held) × (left ≡ Some l) × IsEnded h l a
