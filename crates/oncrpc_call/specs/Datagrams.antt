-- What is sent and received where a call is made by datagrams (RFC 5531 section 9).
use Rattle.std.specs.Prelude.{◌≡◌, ◌≢◌, ◌⊎◌, ℕ, zero, suc, ◌+◌, ◌*◌, ◌-◌, ◌≤◌, List, [], ◌∷◌, ◌++◌, length, replicate}
use Rattle.std.specs.Prelude.{Option, Result, Err}
use Rattle.std.specs.List.{AllByRecursion}
use Rattle.xdr_io.specs.Reported.{Counts}
use Rattle.xdr_units.specs.Numbers.{word, IsWord}
use Rattle.rpc_message.specs.declared.message.Reply.{Reply}
use Rattle.rpc_engine.specs.declared.fault.ClientFault.{ClientFault}
use Rattle.rpc_engine.specs.declared.fault.ClientFault.TheVariants as fault
use Rattle.rpc_engine.specs.DatagramExchange.{Replies}
use Rattle.rpc_engine.specs.Exchanged.{read_failures, write_failures}
use Rattle.rpc_engine.specs.Ports.{Reported, Receives, Sends}
use Rattle.oncrpc_service.specs.Datagrams.{Reporting}

-- what a port tells of itself
abbrev pub report_of : {P : Type 0} → (left sent : P → Reported) → (unreceived unsent : P → Option ℕ) → P → Reporting
report_of left sent unreceived unsent p =
    record { left = left p; sent = sent p; unreceived = unreceived p; unsent = unsent p }

-- how many datagrams of other calls are passed over after each sending, at most
abbrev pub most_passed : ℕ
most_passed = 1048576

-- The message begins with another xid than this (RFC 5531 section 9, rpc_msg).
pub record IsOther (xid : ℕ) (message : List ℕ) : Type 0 where
  pub got : ℕ
  pub rest : List ℕ
  pub fits : IsWord got
  pub begins : message ≡ word got ++ rest
  pub other : got ≢ xid

-- Datagrams of other calls were received, and passed over.
pub record PassesOver (xid : ℕ) (left left' : Reported) (passed : List (List ℕ)) : Type 0 where
  pub others : AllByRecursion (IsOther xid) passed
  pub received : Receives left left' passed

-- this message was received, and it begins with no other xid
abbrev pub Brings : (xid : ℕ) → (left left' : Reported) → (message : List ℕ) → Type 0
Brings xid left left' message = Receives left left' (message ∷ []) × (IsOther xid message → ⊥)

-- What an answer says of what was received behind them: the message of which it speaks; where a device failed, or there
-- were too many, none; where memory was refused one or none.
abbrev pub IsAnswer : (xid : ℕ) → (left left' : Reported) → Result Reply ClientFault → Type 0
IsAnswer xid left left' (Err fault.Read) = Receives left left' []
IsAnswer xid left left' (Err (fault.Write written)) = (written ≡ 0) × Receives left left' []
IsAnswer xid left left' (Err fault.TooManyReads) = Receives left left' []
IsAnswer xid left left' (Err (fault.WrongXid got)) = ⊥
IsAnswer xid left left' (Err fault.NoMemory) =
    Receives left left' [] ⊎ ((message : List ℕ) × Brings xid left left' message)
IsAnswer xid left left' answer = (message : List ℕ) × Brings xid left left' message × Replies xid message answer

-- Datagrams of other calls were passed over, at most so many, and the answer speaks of what came behind them.
pub record Answered (xid most : ℕ) (left left' : Reported) (answer : Result Reply ClientFault) : Type 0 where
  pub passed : List (List ℕ)
  pub few : length passed ≤ most
  pub before : Reported
  pub over : PassesOver xid left before passed
  pub answered : IsAnswer xid before left' answer
  pub many : answer ≡ Err fault.TooManyReads → most_passed ≤ length passed

-- how many receives failed where a call was sent so many times: after each sending one, but for the last, of which the
-- answer speaks
abbrev pub unanswered : (times : ℕ) → Result Reply ClientFault → ℕ
unanswered times (Err (fault.Write written)) = times
unanswered times answer = times - 1 + read_failures answer

-- The call was sent once, and of what was received then, and not before, the answer speaks. For this sending at most
-- most_passed datagrams of other calls were passed over, and as many where there were too many.
pub record Sending {P : Type 0} (reports : P → Reporting) (xid : ℕ) (call : List ℕ) (answer : Result Reply ClientFault)
    (old new : P) : Type 0 where
  pub behind : P
  pub sent : Sends (reports old).sent (reports behind).sent (call ∷ [])
  pub none_received : Receives (reports old).left (reports behind).left []
  pub none_sent : Sends (reports behind).sent (reports new).sent []
  pub answered : Answered xid most_passed (reports behind).left (reports new).left answer
  pub failed : Counts (read_failures answer) (reports old).unreceived (reports new).unreceived
  pub none_failed : Counts 0 (reports old).unsent (reports new).unsent

-- so many sendings one after another, and after each a receive failed
abbrev pub Unanswered : {P : Type 0} → (reports : P → Reporting) → (xid : ℕ) → (call : List ℕ) → (count : ℕ)
    → (old new : P) → Type 0
Unanswered reports xid call zero old new = new ≡ old
Unanswered {P} reports xid call (suc n) old new =
    (mid : P) × Unanswered reports xid call n old mid × Sending reports xid call (Err fault.Read) mid new

-- Nothing was sent and nothing received: memory was refused before the first sending, or the next could not be made.
pub record NotSent {P : Type 0} (reports : P → Reporting) (earlier : ℕ) (answer : Result Reply ClientFault)
    (old new : P) : Type 0 where
  pub why : ((earlier ≡ 0) × (answer ≡ Err fault.NoMemory)) ⊎ (answer ≡ Err (fault.Write 0))
  pub sent : Sends (reports old).sent (reports new).sent []
  pub received : Receives (reports old).left (reports new).left []

-- So many sendings, by what the port told between them: those that no reply answered, and then the last, of which the
-- answer speaks, or none.
pub record Sendings {P : Type 0} (reports : P → Reporting) (xid : ℕ) (call : List ℕ) (times : ℕ) (old new : P)
    (answer : Result Reply ClientFault) : Type 0 where
  pub earlier : ℕ
  pub before : P
  pub unanswered : Unanswered reports xid call earlier old before
  pub last : ((times ≡ earlier + 1) × Sending reports xid call answer before new)
      ⊎ ((times ≡ earlier) × NotSent reports earlier answer before new)

-- The call was sent, so many times at most, and this is the answer. Where no receive brought a reply it was sent as
-- many times as it may be, and it was not sent at all only where memory was refused or the first send failed. What was
-- passed over is told of all sendings together, and of each.
pub record AsksByDatagrams {P : Type 0} (reports : P → Reporting) (xid : ℕ) (call : List ℕ) (most : ℕ) (old new : P)
    (answer : Result Reply ClientFault) : Type 0 where
  pub times : ℕ
  pub few : times ≤ most
  pub all : answer ≡ Err fault.Read → times ≡ most
  pub none : times ≡ 0 → (answer ≡ Err fault.NoMemory) ⊎ (answer ≡ Err (fault.Write 0))
  pub sent : Sends (reports old).sent (reports new).sent (replicate times call)
  pub answer_is : Answered xid (times * most_passed) (reports old).left (reports new).left answer
  pub each : Sendings reports xid call times old new answer
  pub unreceived : Counts (unanswered times answer) (reports old).unreceived (reports new).unreceived
  pub unsent : Counts (write_failures answer) (reports old).unsent (reports new).unsent
