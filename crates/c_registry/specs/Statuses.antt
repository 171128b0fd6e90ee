-- How C sees an answer: a status, and the fields of an outcome.
use Rattle.std.specs.Prelude.{◌≡◌, ℕ}
use Rattle.c_registry.specs.declared.answer.Answer.{Answer}
use Rattle.c_registry.specs.declared.answer.Answer.TheVariants as answer
use Rattle.c_answers.specs.Outcomes.{only_at}
use Rattle.c_answers.specs.declared.outcome.Outcome.{Outcome}

abbrev pub status_of : Answer → ℕ
status_of (answer.Whole count) = 0
status_of answer.NoMemory = 6
status_of (answer.NoRoom needed) = 8
status_of answer.NoRegistry = 18
status_of answer.Silence = 19
status_of answer.NoTransport = 20
status_of answer.Unchanged = 21
status_of answer.NoCaller = 33

-- how many bytes were written or are needed, 0 where nothing is counted
abbrev pub count_of : Answer → ℕ
count_of (answer.Whole count) = count
count_of answer.NoMemory = 0
count_of (answer.NoRoom needed) = needed
count_of answer.NoRegistry = 0
count_of answer.Silence = 0
count_of answer.NoTransport = 0
count_of answer.Unchanged = 0
count_of answer.NoCaller = 0

-- that count, and no other field
abbrev pub outcome_of : Answer → Outcome
outcome_of a = only_at (count_of a)

-- a status and an outcome that are those of an answer of which this holds
abbrev pub Reports : (Answer → Type 0) → (status : ℕ) → Outcome → Type 0
Reports Is status outcome = (a : Answer) × Is a × (status ≡ status_of a) × (outcome ≡ outcome_of a)

-- the same of a call that tells the count alone
abbrev pub ReportsCount : (Answer → Type 0) → (status count : ℕ) → Type 0
ReportsCount Is status count = (a : Answer) × Is a × (status ≡ status_of a) × (count ≡ count_of a)
