-- How C sees what writing came to.
use Rattle.std.specs.Prelude.{◌≡◌, ℕ}
use Rattle.c_messages.specs.declared.answer.Answer.{Answer}
use Rattle.c_messages.specs.declared.answer.Answer.TheVariants as answer

abbrev pub status_of : Answer → ℕ
status_of answer.Whole = 0
status_of answer.NoMemory = 6
status_of answer.NoRoom = 8
status_of answer.BadCredential = 11
status_of answer.BadVerifier = 12
status_of answer.BadStatus = 15
status_of answer.NoAuthSys = 17

-- a status that is that of an answer of which this holds
abbrev pub Reports : (Answer → Type 0) → (status : ℕ) → Type 0
Reports Is status = (a : Answer) × Is a × (status ≡ status_of a)
