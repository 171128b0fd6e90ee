-- How C sees the answer of a session's call: a status, and the fields of an outcome.
use Rattle.std.specs.Prelude.{◌≡◌, ℕ}
use Rattle.c_answers.specs.declared.outcome.Outcome.{Outcome}
use Rattle.c_answers.specs.Outcomes.{only_at}
use Rattle.rpc_record.specs.declared.fault.RecordFault.TheVariants as flaw
use Rattle.registry_sessions.specs.declared.fault.SessionFault.{SessionFault}
use Rattle.registry_sessions.specs.declared.fault.SessionFault.TheVariants as fault
use Rattle.c_registry.specs.declared.session_answer.SessionAnswer.{SessionAnswer}
use Rattle.c_registry.specs.declared.session_answer.SessionAnswer.TheVariants as answer

-- memory was refused, or the stream is
abbrev pub fault_status : SessionFault → ℕ
fault_status fault.NoMemory = 6
fault_status (fault.Record f) = 2

abbrev pub status_of : SessionAnswer → ℕ
status_of (answer.Whole count) = 0
status_of (answer.Follows count) = 1
status_of (answer.Broken f) = fault_status f
status_of answer.TooMany = 5
status_of answer.NoMemory = 6
status_of answer.NoRegistry = 18
status_of answer.NoTransport = 20
status_of answer.More = 23
status_of answer.NoSession = 31
status_of answer.Full = 32
status_of answer.NoCaller = 33

-- the number of a fault's reason
abbrev pub why_of : SessionFault → ℕ
why_of (fault.Record (flaw.TooLong at)) = 4
why_of (fault.Record (flaw.Truncated at)) = 8
why_of _ = 0

-- the place in the stream that it names
abbrev pub place_of : SessionFault → ℕ
place_of (fault.Record (flaw.TooLong at)) = at
place_of (fault.Record (flaw.Truncated at)) = at
place_of _ = 0

-- a place and a reason, and no other field
abbrev pub refusal : SessionFault → Outcome
refusal f = record { at = place_of f; line = 0; column = 0; why = why_of f; inner = 0 }

abbrev pub outcome_of : SessionAnswer → Outcome
outcome_of (answer.Whole count) = only_at count
outcome_of (answer.Follows count) = only_at count
outcome_of (answer.Broken f) = refusal f
outcome_of _ = only_at 0

-- a status and an outcome that are those of an answer of which this holds
abbrev pub Reports : (SessionAnswer → Type 0) → (status : ℕ) → Outcome → Type 0
Reports Is status outcome = (a : SessionAnswer) × Is a × (status ≡ status_of a) × (outcome ≡ outcome_of a)
