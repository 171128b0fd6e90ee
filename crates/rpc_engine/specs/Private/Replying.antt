-- What answering a datagram does, and what serving datagrams has done so far.
use Rattle.std.specs.Prelude.{◌≡◌, ℕ, true, false, Bool, List, [], ◌∷◌, length, Some, None, Result, Ok, Err}
use Rattle.registry_rows.specs.Rows.{Row}
use Rattle.registry_rows.specs.Ports.{udp}
use Rattle.registry_answer.specs.Answer.{Answer}
use Rattle.rpc_engine.specs.Datagrams.{Finishes}
use Rattle.rpc_engine.specs.Ports.{Reported, Sends}

-- the datagram is answered with this reply
abbrev pub HasReply : List Row → List ℕ → List Row → List ℕ → Type 0
HasReply rows datagram new bytes = (refused : Bool) × Answer rows udp datagram refused new (Some bytes)

-- The datagram was answered: its reply was sent, it wants none, or its reply was not sent.
abbrev pub RepliesTo : {E : Type 0} → List Row → (datagram : List ℕ) → List Row → Reported → Reported
    → Result Bool E → Type 0
RepliesTo rows datagram new sent sent' (Ok true) =
    (bytes : List ℕ) × (HasReply rows datagram new bytes × Sends sent sent' (bytes ∷ []))
RepliesTo rows datagram new sent sent' (Ok false) = Answer rows udp datagram false new None × Sends sent sent' []
RepliesTo rows datagram new sent sent' (Err e) =
    (bytes : List ℕ) × (HasReply rows datagram new bytes × Sends sent sent' [])

-- So many datagrams were finished, with so many replies.
pub record HasServed (done replied : ℕ) (rows new : List Row) (left left' sent sent' : Reported) : Type 0 where
  pub datagrams : List (List ℕ)
  pub replies : List (List ℕ)
  pub so_many : length datagrams ≡ done
  pub answered : length replies ≡ replied
  pub finished : Finishes rows new left left' sent sent' datagrams replies
