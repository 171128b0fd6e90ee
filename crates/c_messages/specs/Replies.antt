-- What C sees of a reply, and what it asks to be written (RFC 5531 section 9).
use Rattle.std.specs.Prelude.{◌≡◌, ◌≤◌, ◌<◌, ◌+◌, ℕ, List, [], length, Result, Ok, Err}
use Rattle.rpc_message.specs.Message.{AuthView, StatusView, Success, ProgUnavail, ProgMismatch, ProcUnavail}
use Rattle.rpc_message.specs.Message.{GarbageArgs, SystemErr, WhyView, RpcMismatch, AuthError, ReplyView, Accepted}
use Rattle.rpc_message.specs.Message.{Denied}
use Rattle.rpc_message.specs.Spelling.{ReplyBytes}
use Rattle.rpc_message.specs.Faults.{StandsIn}
use Rattle.rpc_message.specs.declared.fault.ReplyFault.{ReplyFault}
use Rattle.rpc_message.specs.declared.fault.ReplyFault.TheVariants as fault
use Rattle.c_messages.specs.declared.answer.Answer.{Answer}
use Rattle.c_messages.specs.declared.answer.Answer.TheVariants as answer
use Rattle.c_messages.specs.declared.replies.ReplyParts.{ReplyParts}
use Rattle.c_messages.specs.Parts.{part, none, padded_size}
use Rattle.c_answers.specs.Buffers.{IsRetained}
use Rattle.c_messages.specs.Buffers.{IsPlaced}

-- a reply of this state, and nothing else
abbrev pub bare : (xid state : ℕ) → ReplyParts
bare xid state = record {
  xid = xid;
  state = state;
  low = 0;
  high = 0;
  auth_stat = 0;
  verifier_flavor = 0;
  verifier = none;
  results = none;
}

-- with the number of the status, accept_stat, the versions of PROG_MISMATCH, and the results of SUCCESS at that place
abbrev pub with_status : ReplyParts → StatusView → (at : ℕ) → ReplyParts
with_status p (Success results) at = record p { results = part at results }
with_status p ProgUnavail at = record p { state = 1 }
with_status p (ProgMismatch low high) at = record p { state = 2; low = low; high = high }
with_status p ProcUnavail at = record p { state = 3 }
with_status p GarbageArgs at = record p { state = 4 }
with_status p SystemErr at = record p { state = 5 }

-- with a verifier, whose body is behind five numbers
abbrev pub with_verifier : ReplyParts → AuthView → ReplyParts
with_verifier p verf = record p { verifier_flavor = verf.flavor; verifier = part 20 verf.body }

-- What is reported of a reply: the results are behind the verifier with its padding and one number.
abbrev pub reported_of : ReplyView → ReplyParts
reported_of (Accepted xid verf status) =
    with_status (with_verifier (bare xid 0) verf) status (24 + padded_size (length verf.body))
reported_of (Denied xid (RpcMismatch low high)) = record (bare xid 6) { low = low; high = high }
reported_of (Denied xid (AuthError stat)) = record (bare xid 7) { auth_stat = stat }

-- the status of each fault
abbrev pub fault_status : ReplyFault → ℕ
fault_status fault.NoMemory = 6
fault_status fault.BadAuth = 12
fault_status fault.Truncated = 13
fault_status fault.NotAReply = 14
fault_status fault.BadStatus = 15
fault_status fault.Rest = 16

-- the bytes are this reply, or what the fault names stands in them
abbrev pub IsOutcome : (input : List ℕ) → Result ReplyView ReplyFault → Type 0
IsOutcome input (Ok r) = ReplyBytes r input
IsOutcome input (Err f) = StandsIn f input

abbrev pub outcome_status : Result ReplyView ReplyFault → ℕ
outcome_status (Ok r) = 0
outcome_status (Err f) = fault_status f

-- nothing is reported with a fault
abbrev pub outcome_reported : Result ReplyView ReplyFault → ReplyParts
outcome_reported (Ok r) = reported_of r
outcome_reported (Err f) = bare 0 0

-- the body of a reply's verifier, where it has one
abbrev pub verifier_of : ReplyView → List ℕ
verifier_of (Accepted xid verf status) = verf.body
verifier_of (Denied xid why) = []

-- the results of a reply, where it has any
abbrev pub results_of : ReplyView → List ℕ
results_of (Accepted xid verf (Success results)) = results
results_of _ = []

-- the status that the state stands for
abbrev pub IsStatusAsked : ReplyParts → (results : List ℕ) → StatusView → Type 0
IsStatusAsked p results (Success these) = (p.state ≡ 0) × (these ≡ results)
IsStatusAsked p results ProgUnavail = p.state ≡ 1
IsStatusAsked p results (ProgMismatch low high) = (p.state ≡ 2) × (low ≡ p.low) × (high ≡ p.high)
IsStatusAsked p results ProcUnavail = p.state ≡ 3
IsStatusAsked p results GarbageArgs = p.state ≡ 4
IsStatusAsked p results SystemErr = p.state ≡ 5

-- the reason that the state stands for
abbrev pub IsWhyAsked : ReplyParts → WhyView → Type 0
IsWhyAsked p (RpcMismatch low high) = (p.state ≡ 6) × (low ≡ p.low) × (high ≡ p.high)
IsWhyAsked p (AuthError stat) = (p.state ≡ 7) × (stat ≡ p.auth_stat)

-- the reply with these numbers, verifier and results
abbrev pub IsAsked : ReplyParts → (verifier results : List ℕ) → ReplyView → Type 0
IsAsked p verifier results (Accepted xid verf status) =
    (xid ≡ p.xid) × (verf ≡ record { flavor = p.verifier_flavor; body = verifier }) × IsStatusAsked p results status
IsAsked p verifier results (Denied xid why) = (xid ≡ p.xid) × IsWhyAsked p why

-- These are the bytes of the reply that is asked for.
pub record HasReply (p : ReplyParts) (verifier results bytes : List ℕ) : Type 0 where
  pub reply : ReplyView
  pub asked : IsAsked p verifier results reply
  pub spelled : ReplyBytes reply bytes

-- what writing a reply came to, and what stands in the buffer
abbrev pub IsReplyWritten : ReplyParts → (verifier results old new : List ℕ) → (count : ℕ) → Answer → Type 0
IsReplyWritten p verifier results old new count answer.Whole =
    (bytes : List ℕ) × HasReply p verifier results bytes × IsPlaced bytes old new count answer.Whole
IsReplyWritten p verifier results old new count answer.NoRoom =
    (bytes : List ℕ) × HasReply p verifier results bytes × IsPlaced bytes old new count answer.NoRoom
IsReplyWritten p verifier results old new count answer.BadStatus = (7 < p.state) × IsRetained old new count
IsReplyWritten p verifier results old new count answer.BadVerifier =
    (p.state ≤ 5) × (400 < length verifier) × IsRetained old new count
IsReplyWritten p verifier results old new count answer.NoMemory = IsRetained old new count
IsReplyWritten p verifier results old new count _ = ⊥
