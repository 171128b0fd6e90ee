-- How C sees an answer: a status, and the fields of an outcome.
use Rattle.std.specs.Prelude.{◌≡◌, ℕ}
use Rattle.rpc_record.specs.declared.fault.RecordFault.{RecordFault}
use Rattle.rpc_record.specs.declared.fault.RecordFault.TheVariants as fault
use Rattle.c_records.specs.declared.answer.Answer.{Answer}
use Rattle.c_records.specs.declared.answer.Answer.TheVariants as answer
use Rattle.c_answers.specs.Outcomes.{only_at}
use Rattle.c_answers.specs.declared.outcome.Outcome.{Outcome}

-- the number of a fault's reason; 0 of those that no reader of pieces answers
abbrev pub why_of : RecordFault → ℕ
why_of (fault.TooLong at) = 4
why_of (fault.Truncated at) = 8
why_of _ = 0

-- the place in the stream that it names
abbrev pub place_of : RecordFault → ℕ
place_of (fault.TooLong at) = at
place_of (fault.Truncated at) = at
place_of _ = 0

abbrev pub status_of : Answer → ℕ
status_of (answer.Whole count) = 0
status_of (answer.Refused fault.NoMemory) = 6
status_of (answer.Refused f) = 2
status_of answer.BadLimit = 5
status_of answer.NoMemory = 6
status_of (answer.NoRoom needed) = 8
status_of answer.NoReader = 22
status_of answer.More = 23
status_of answer.NoRecord = 24

-- each field is 0 where nothing is counted or refused
abbrev pub outcome_of : Answer → Outcome
outcome_of (answer.Whole count) = only_at count
outcome_of (answer.Refused f) = record { at = place_of f; line = 0; column = 0; why = why_of f; inner = 0 }
outcome_of (answer.NoRoom needed) = only_at needed
outcome_of answer.BadLimit = only_at 0
outcome_of answer.NoMemory = only_at 0
outcome_of answer.NoReader = only_at 0
outcome_of answer.More = only_at 0
outcome_of answer.NoRecord = only_at 0

-- a status and an outcome that are those of an answer of which this holds
abbrev pub Reports : (Answer → Type 0) → (status : ℕ) → Outcome → Type 0
Reports Is status outcome = (a : Answer) × Is a × (status ≡ status_of a) × (outcome ≡ outcome_of a)
