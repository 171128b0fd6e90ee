-- What writing the answer to a caller does.
use Rattle.std.specs.Prelude.{◌≡◌, ℕ, true, false, List, Some, None}
use Rattle.rpc_message.specs.Heads.{accepted}
use Rattle.rpc_message.specs.Message.{SystemErr}
use Rattle.rpc_message.specs.Spelling.{reply}
use Rattle.registry_rows.specs.Rows.{Row}
use Rattle.registry_answer.specs.Answering.{Adds}
use Rattle.registry_answer.specs.declared.answering.Appended.{Appended}
use Rattle.registry_answer.specs.declared.answering.Appended.TheVariants as appended
use Rattle.registry_callers.specs.declared.callers.Caller.{Caller}
use Rattle.registry_callers.specs.From.{AnswerFrom}

-- The record was answered: nothing was written, the reply was, or memory was refused, the bytes are as they were, and
-- SYSTEM_ERR is to be sent.
abbrev pub AppendsFrom : Caller → List Row → (netid message old : List ℕ) → List Row → (out : List ℕ) → Appended
    → Type 0
AppendsFrom caller rows netid message old new out appended.Nothing =
    AnswerFrom caller rows netid message false new None × (out ≡ old)
AppendsFrom caller rows netid message old new out appended.Reply =
    (bytes : List ℕ) × (AnswerFrom caller rows netid message false new (Some bytes) × Adds old out bytes)
AppendsFrom caller rows netid message old new out (appended.OutOfMemory xid) =
    AnswerFrom caller rows netid message true new (Some (reply (accepted xid SystemErr))) × (out ≡ old)
