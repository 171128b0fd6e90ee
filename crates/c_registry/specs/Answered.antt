-- What answering a record does, and what becomes of the reply.
use Rattle.std.specs.Prelude.{◌≡◌, ◌⊎◌, ℕ, Bool, List, Option, Some, None}
use Rattle.registry_rows.specs.Ports.{tcp, udp}
use Rattle.registry_answer.specs.Answer as registry
use Rattle.c_registry.specs.declared.answer.Answer.{Answer}
use Rattle.c_registry.specs.declared.answer.Answer.TheVariants as answer
use Rattle.c_registry.specs.Held.{Held}
use Rattle.c_registry.specs.Buffers.{IsPlaced}

-- a reply goes into the buffer and waits no longer, or waits until there is enough; silence where there is none
abbrev pub IsGiven : (reply waits : Option (List ℕ)) → (old new : List ℕ) → Answer → Type 0
IsGiven None waits old new a = (a ≡ answer.Silence) × (waits ≡ None) × (new ≡ old)
IsGiven (Some bytes) waits old new (answer.Whole count) = IsPlaced bytes old new (answer.Whole count) × (waits ≡ None)
IsGiven (Some bytes) waits old new a = IsPlaced bytes old new a × (waits ≡ Some bytes)

-- The reply that waits is given, and the rows stay.
pub record IsTaken (h left : Held) (old new : List ℕ) (a : Answer) : Type 0 where
  pub rows : left.rows ≡ h.rows
  pub given : IsGiven h.waits left.waits old new a

-- the same of a handle
abbrev pub IsTakenBy : (held left : Option Held) → (old new : List ℕ) → Answer → Type 0
IsTakenBy None left old new a = (a ≡ answer.NoRegistry) × (left ≡ None) × (new ≡ old)
IsTakenBy (Some h) left old new a = (l : Held) × (left ≡ Some l) × IsTaken h l old new a

-- The registry with these rows answers the record that came over a transport, and its reply is given, or silence.
pub record IsAnswered (h : Held) (netid message : List ℕ) (left : Held) (old new : List ℕ) (a : Answer)
    : Type 0 where
  pub refused : Bool
  pub sent : Option (List ℕ)
  pub answer : registry.Answer h.rows netid message refused left.rows sent
  pub given : IsGiven sent left.waits old new a

-- one of the transports over which the registry is served (RFC 5665 section 5.1)
abbrev pub IsTransport : (netid : List ℕ) → Type 0
IsTransport netid = (netid ≡ tcp) ⊎ (netid ≡ udp)

-- the same of a handle, for a netid that is one of a transport
abbrev pub IsAnsweredBy : (held : Option Held) → (netid message : List ℕ) → (left : Option Held) → (old new : List ℕ)
    → Answer → Type 0
IsAnsweredBy None netid message left old new a = (a ≡ answer.NoRegistry) × (left ≡ None) × (new ≡ old)
IsAnsweredBy (Some h) netid message left old new answer.NoTransport =
    (IsTransport netid → ⊥) × (left ≡ Some h) × (new ≡ old)
IsAnsweredBy (Some h) netid message left old new a =
    IsTransport netid × (l : Held) × (left ≡ Some l) × IsAnswered h netid message l old new a
