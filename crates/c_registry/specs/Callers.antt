-- Who calls, as C tells it, and what answering a record of a caller does.
use Rattle.std.specs.Prelude.{◌≡◌, ◌⊎◌, ◌==◌, if◌then◌else◌, ℕ, Bool, true, false, List, Option, Some, None}
use Rattle.registry_rows.specs.Ports.{tcp}
use Rattle.registry_answer.specs.Views.{local}
use Rattle.registry_callers.specs.declared.callers.Caller.{Caller}
use Rattle.registry_callers.specs.declared.callers.Peer.{Peer}
use Rattle.registry_callers.specs.declared.callers.Peer.TheVariants as peer
use Rattle.registry_callers.specs.From.{AnswerFrom}
use Rattle.c_registry.specs.declared.answer.Answer.{Answer}
use Rattle.c_registry.specs.declared.answer.Answer.TheVariants as answer
use Rattle.c_registry.specs.declared.caller.CallerParts.{CallerParts}
use Rattle.c_registry.specs.Answered.{IsGiven, IsTransport}
use Rattle.c_registry.specs.Held.{Held}

-- who calls, by a number of the header, and which user
abbrev pub peer_of : (number uid : ℕ) → Option Peer
peer_of number uid =
    if number == 0 then Some peer.Remote
    else if number == 1 then Some peer.Local
    else if number == 2 then Some (peer.LocalUser uid)
    else None

-- the host that was called, where that is known
abbrev pub known_host : Bool → (host : List ℕ) → Option (List ℕ)
known_host true host = Some host
known_host false host = None

abbrev pub host_of : CallerParts → Option (List ℕ)
host_of p = known_host p.has_host p.host

-- a caller who is one of these, if it is one
abbrev pub caller_with : Option Peer → (host : Option (List ℕ)) → (trusts : Bool) → Option Caller
caller_with (Some who) host trusts = Some (record { peer = who; host = host; trusts_remote = trusts })
caller_with None host trusts = None

-- the caller that C tells of, if there is such a one
abbrev pub caller_of : CallerParts → Option Caller
caller_of p = caller_with (peer_of p.peer p.uid) (host_of p) p.trusts_remote

-- one of the transports over which a caller may come: a Unix socket of the host too (own)
abbrev pub IsOrigin : (netid : List ℕ) → Type 0
IsOrigin netid = (netid ≡ local) ⊎ IsTransport netid

-- one of those with connections (RFC 5665 section 5.1; own)
abbrev pub IsStream : (netid : List ℕ) → Type 0
IsStream netid = (netid ≡ tcp) ⊎ (netid ≡ local)

-- The registry with these rows answers the record of a caller that came over a transport, and its reply is given, or
-- silence.
pub record IsAnsweredFrom (caller : Caller) (h : Held) (netid message : List ℕ) (left : Held) (old new : List ℕ)
    (a : Answer) : Type 0 where
  pub refused : Bool
  pub sent : Option (List ℕ)
  pub answer : AnswerFrom caller h.rows netid message refused left.rows sent
  pub given : IsGiven sent left.waits old new a

-- the same of a handle, for a netid that is one of a transport, and for a caller that there is
abbrev pub IsAnsweredFromBy : (held : Option Held) → (who : Option Caller) → (netid message : List ℕ)
    → (left : Option Held) → (old new : List ℕ) → Answer → Type 0
IsAnsweredFromBy None who netid message left old new a = (a ≡ answer.NoRegistry) × (left ≡ None) × (new ≡ old)
IsAnsweredFromBy (Some h) who netid message left old new answer.NoTransport =
    (IsOrigin netid → ⊥) × (left ≡ Some h) × (new ≡ old)
IsAnsweredFromBy (Some h) who netid message left old new answer.NoCaller =
    IsOrigin netid × (who ≡ None) × (left ≡ Some h) × (new ≡ old)
IsAnsweredFromBy (Some h) who netid message left old new a =
    IsOrigin netid × (caller : Caller) × (who ≡ Some caller) × (l : Held) × (left ≡ Some l)
    × IsAnsweredFrom caller h netid message l old new a
