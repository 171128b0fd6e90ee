-- What the calls of a session do, over the registry that a handle holds (RFC 5531 sections 9 and 11).
use Rattle.std.specs.Prelude.{◌≡◌, ◌≤◌, ◌<◌, ℕ, List, [], length, take, drop, Option, Some, None, Result, Ok, Err}
use Rattle.registry_callers.specs.declared.callers.Caller.{Caller}
use Rattle.registry_sessions.specs.declared.fault.SessionFault.{SessionFault}
use Rattle.registry_sessions.specs.declared.fault.Taken.{Taken}
use Rattle.registry_sessions.specs.declared.fault.Taken.TheVariants as taken
use Rattle.registry_sessions.specs.declared.session.Session.{Session}
use Rattle.registry_answer.specs.Views.{netid_of}
use Rattle.registry_sessions.specs.Represents.{output_of, bound_of, origin_of, HasRead, Holds, TakesIn, Took}
use Rattle.c_answers.specs.Buffers.{AreAtFront}
use Rattle.c_registry.specs.declared.connected.Connected.{Connected}
use Rattle.c_registry.specs.declared.session_answer.SessionAnswer.{SessionAnswer}
use Rattle.c_registry.specs.declared.session_answer.SessionAnswer.TheVariants as answer
use Rattle.c_registry.specs.Callers.{IsStream}
use Rattle.c_registry.specs.Held.{Held}

-- the session that a handle holds
abbrev pub session_of : Connected → Session
session_of c = c.session

-- ---- beginning

-- A session over this transport, of this caller and with this bound has read nothing, and has no replies.
pub record IsFresh (netid : List ℕ) (caller : Caller) (bound : ℕ) (s : Session) : Type 0 where
  pub reads : HasRead s [] []
  pub replies : Holds s [] 0
  pub over : netid_of (origin_of s).transport ≡ netid
  pub of : (origin_of s).caller ≡ caller
  pub bound_is : bound_of s ≡ bound

-- a fresh session is held; nothing is where there is no such transport or caller, or memory was refused
abbrev pub IsStarted : (netid : List ℕ) → (who : Option Caller) → (bound : ℕ) → (left : Option Session)
    → SessionAnswer → Type 0
IsStarted netid who bound left answer.NoTransport = (IsStream netid → ⊥) × (left ≡ None)
IsStarted netid None bound left answer.NoCaller = IsStream netid × (left ≡ None)
IsStarted netid (Some caller) bound left answer.NoMemory = IsStream netid × (left ≡ None)
IsStarted netid (Some caller) bound left (answer.Whole count) =
    IsStream netid × (count ≡ 0) × (s : Session) × (left ≡ Some s) × IsFresh netid caller bound s
IsStarted netid _ bound left _ = ⊥

-- ---- bytes that come

-- how C is told what a session did with a piece
abbrev pub told_of : Result Taken SessionFault → SessionAnswer
told_of (Ok (taken.Answered used)) = answer.Whole used
told_of (Ok taken.More) = answer.More
told_of (Ok taken.Full) = answer.Full
told_of (Err f) = answer.Broken f

-- The session takes bytes of a piece, and the registry answers the record that is whole then. A reply that waits for a
-- buffer of `oncrpc_registry_reply` stays.
pub record IsFed (s : Session) (h : Held) (piece : List ℕ) (left : Session) (after : Held) (a : SessionAnswer)
    : Type 0 where
  pub result : Result Taken SessionFault
  pub told : a ≡ told_of result
  pub takes : TakesIn s left h.rows after.rows piece result
  pub bound : bound_of left ≡ bound_of s
  pub waits : after.waits ≡ h.waits

-- the same over the registry of a handle
abbrev pub IsFedOver : Session → (held : Option Held) → (piece : List ℕ) → (left : Session) → (after : Option Held)
    → SessionAnswer → Type 0
IsFedOver s None piece left after a = (a ≡ answer.NoRegistry) × (left ≡ s) × (after ≡ None)
IsFedOver s (Some h) piece left after a = (l : Held) × (after ≡ Some l) × IsFed s h piece left l a

-- the same of the session of a handle
abbrev pub IsFedBy : (session : Option Session) → (held : Option Held) → (piece : List ℕ)
    → (left : Option Session) → (after : Option Held) → SessionAnswer → Type 0
IsFedBy None held piece left after a = (a ≡ answer.NoSession) × (left ≡ None) × (after ≡ held)
IsFedBy (Some s) held piece left after a = (t : Session) × (left ≡ Some t) × IsFedOver s held piece t after a

-- ---- output

-- all bytes that wait stand at the front of the buffer; or more wait than go into it, and it holds the first of them
abbrev pub IsShown : Session → (old new : List ℕ) → SessionAnswer → Type 0
IsShown s old new (answer.Whole count) =
    (count ≡ length (output_of s)) × (count ≤ length old) × AreAtFront (output_of s) old new
IsShown s old new (answer.Follows count) =
    (count ≡ length old) × (count < length (output_of s)) × (new ≡ take count (output_of s))
IsShown s old new _ = ⊥

-- the same of a handle
abbrev pub IsShownBy : (session : Option Session) → (old new : List ℕ) → SessionAnswer → Type 0
IsShownBy None old new a = (a ≡ answer.NoSession) × (new ≡ old)
IsShownBy (Some s) old new a = IsShown s old new a

-- A write took the first n bytes of the output, and so many wait.
pub record HasWritten (s : Session) (n : ℕ) (left : Session) (waiting : ℕ) : Type 0 where
  pub few : n ≤ length (output_of s)
  pub output : output_of left ≡ drop n (output_of s)
  pub waiting_is : waiting ≡ length (output_of left)
  pub took : Took s left n
  pub bound : bound_of left ≡ bound_of s

-- it took them; or fewer bytes waited, and all stays
abbrev pub IsTook : Session → (n : ℕ) → (left : Session) → SessionAnswer → Type 0
IsTook s n left (answer.Whole count) = HasWritten s n left count
IsTook s n left answer.TooMany = (length (output_of s) < n) × (left ≡ s)
IsTook s n left _ = ⊥

-- the same of a handle
abbrev pub IsTookBy : (session : Option Session) → (n : ℕ) → (left : Option Session) → SessionAnswer → Type 0
IsTookBy None n left a = (a ≡ answer.NoSession) × (left ≡ None)
IsTookBy (Some s) n left a = (t : Session) × (left ≡ Some t) × IsTook s n t a
