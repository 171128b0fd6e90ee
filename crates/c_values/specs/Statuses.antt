-- How C sees an answer: a status, and the fields of an outcome.
use Rattle.std.specs.Prelude.{◌≡◌, ℕ, Bool, true, false}
use Rattle.xdr_stream.specs.Reasons.{reason_number}
use Rattle.c_values.specs.declared.answer.Answer.{Answer}
use Rattle.c_values.specs.declared.answer.Answer.TheVariants as answer
use Rattle.c_values.specs.Items.{why_number}
use Rattle.c_answers.specs.Outcomes.{only_at}
use Rattle.c_answers.specs.declared.outcome.Outcome.{Outcome}

abbrev pub status_of : Answer → ℕ
status_of (answer.Whole used) = 0
status_of (answer.Followed used) = 1
status_of (answer.Refused f) = 2
status_of (answer.Undeclared f) = 3
status_of answer.NoKind = 4
status_of answer.BadLimits = 5
status_of answer.NoMemory = 6
status_of answer.NoDeclarations = 7
status_of (answer.NoRoom needed) = 8
status_of (answer.BadItem f) = 26

-- each field is 0 where nothing is named
abbrev pub outcome_of : Answer → Outcome
outcome_of (answer.Whole used) = only_at used
outcome_of (answer.Followed used) = only_at used
outcome_of (answer.Refused f) = record { at = f.at; line = 0; column = 0; why = reason_number f.why; inner = 0 }
outcome_of (answer.Undeclared f) =
    record { at = 0; line = f.line; column = f.column; why = f.number; inner = f.inner }
outcome_of answer.NoKind = only_at 0
outcome_of answer.BadLimits = only_at 0
outcome_of answer.NoMemory = only_at 0
outcome_of answer.NoDeclarations = only_at 0
outcome_of (answer.NoRoom needed) = only_at needed
outcome_of (answer.BadItem f) = record { at = f.at; line = 0; column = 0; why = why_number f.why; inner = 0 }

-- whether a value begins the bytes
abbrev pub reports_value : Answer → Bool
reports_value (answer.Whole used) = true
reports_value (answer.Followed used) = true
reports_value _ = false

-- a status and an outcome that are those of an answer of which this holds
abbrev pub Reports : (Answer → Type 0) → (status : ℕ) → Outcome → Type 0
Reports Is status outcome = (a : Answer) × Is a × (status ≡ status_of a) × (outcome ≡ outcome_of a)
