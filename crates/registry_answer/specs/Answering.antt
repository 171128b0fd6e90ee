-- What writing an answer does.
use Rattle.std.specs.Prelude.{◌≡◌, ℕ, ◌+◌, ◌^◌, ◌≤◌, true, false, List, ◌++◌, length, Some, None, Result, Ok, Err}
use Rattle.rpc_message.specs.Heads.{accepted}
use Rattle.rpc_message.specs.Message.{SystemErr}
use Rattle.rpc_message.specs.Spelling.{reply}
use Rattle.registry_rows.specs.Rows.{Row}
use Rattle.registry_answer.specs.Answer.{Answer}
use Rattle.registry_answer.specs.declared.answering.Appended.{Appended}
use Rattle.registry_answer.specs.declared.answering.Appended.TheVariants as appended

-- what writing a reply came to
abbrev pub appended_of : {E : Type 0} → ℕ → Result (Unit {0}) E → Appended
appended_of xid (Ok u) = appended.Reply
appended_of xid (Err e) = appended.OutOfMemory xid

-- the most bytes of a reply: 24 before the results (RFC 5531 section 9), and 2 ^ 24 of these
abbrev pub most : ℕ
most = 24 + 2 ^ 24

-- The bytes were written, and they are not too many for a record.
pub record Adds (old out bytes : List ℕ) : Type 0 where
  pub added : out ≡ old ++ bytes
  pub short : length bytes ≤ most

-- The record was answered: nothing was written, the reply was, or memory was refused and SYSTEM_ERR is to be sent.
abbrev pub PushesAnswer : List Row → (netid message old : List ℕ) → List Row → (out : List ℕ) → Appended → Type 0
PushesAnswer rows netid message old new out appended.Nothing =
    Answer rows netid message false new None × (out ≡ old)
PushesAnswer rows netid message old new out appended.Reply =
    (bytes : List ℕ) × (Answer rows netid message false new (Some bytes) × Adds old out bytes)
PushesAnswer rows netid message old new out (appended.OutOfMemory xid) =
    Answer rows netid message true new (Some (reply (accepted xid SystemErr)))

-- The same, and where memory was refused the bytes are as they were.
abbrev pub AppendsAnswer : List Row → (netid message old : List ℕ) → List Row → (out : List ℕ) → Appended → Type 0
AppendsAnswer rows netid message old new out (appended.OutOfMemory xid) =
    Answer rows netid message true new (Some (reply (accepted xid SystemErr))) × (out ≡ old)
AppendsAnswer rows netid message old new out p = PushesAnswer rows netid message old new out p
