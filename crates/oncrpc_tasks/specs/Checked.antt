-- What reading one value writes, and the status that it ends with.
use Rattle.std.specs.Prelude.{◌≡◌, ◌⊎◌, ℕ, ◌<◌, Bool, true, false, List, ◌++◌, length, take, Option}
use Rattle.std.specs.Io.KnownBytes.{Appends}
use Rattle.xdr_io.specs.Reported.{Counts}
use Rattle.oncrpc_answers.specs.declared.answer.Answer.{Answer}
use Rattle.oncrpc_answers.specs.declared.answer.Answer.TheVariants as answer
use Rattle.oncrpc_answers.specs.Lines.{line, line_status}
use Rattle.oncrpc_tasks.specs.declared.question.Form.{Form}
use Rattle.oncrpc_tasks.specs.declared.question.Form.TheVariants as form
use Rattle.oncrpc_tasks.specs.Devices.{Stream}
use Rattle.oncrpc_tasks.specs.Right.{Question, IsRightFor}

-- what is printed: what is shown of the value and then the line of the answer, or what is shown as JSON alone
abbrev pub printed_in : Form → (shown : List ℕ) → Answer → List ℕ
printed_in form.Outcome shown a = shown ++ line a
printed_in form.Lines shown a = shown ++ line a
printed_in (form.Json layout) shown a = shown

-- A line was written to a stream, or its beginning before a write that failed.
abbrev pub IsSaid : {F : Type 0} → Stream F → (stream stream' : F) → (text : List ℕ) → Type 0
IsSaid {F} reports f f' text =
    Appends (reports.taken f) (reports.taken f') text
    ⊎ (Counts 1 (reports.lost f) (reports.lost f')
    × ((count : ℕ) × (count < length text) × Appends (reports.taken f) (reports.taken f') (take count text)))

-- the line of an answer stands on the stream of faults: beside JSON, unless it is `ok N`
abbrev pub is_said : Form → Answer → Bool
is_said form.Outcome a = false
is_said form.Lines a = false
is_said (form.Json layout) (answer.Whole used) = false
is_said (form.Json layout) (answer.MoreFollows used) = true
is_said (form.Json layout) (answer.Refused f) = true
is_said (form.Json layout) answer.BadHex = true
is_said (form.Json layout) answer.HexTooLong = true

-- what is said on the stream of faults: a line that stands there, or nothing
abbrev pub SaysLine : {F : Type 0} → Stream F → (faults faults' : F) → (text : List ℕ) → Bool → Type 0
SaysLine {F} reports f f' text true = IsSaid reports f f' text
SaysLine {F} reports f f' text false = f' ≡ f

abbrev pub Says : {F : Type 0} → Form → Stream F → (faults faults' : F) → Answer → Type 0
Says {F} how reports f f' a = SaysLine reports f f' (line a) (is_said how a)

-- What is shown and the line of the right answer were written, each where it belongs, and the status is that answer's.
pub record Answers {F : Type 0} (q : Question) (hex : Bool) (left taken taken' : Option (List ℕ)) (reports : Stream F)
    (faults faults' : F) (ended : ℕ) : Type 0 where
  pub answer : Answer
  pub shown : List ℕ
  pub right : IsRightFor q hex left answer shown
  pub written : Appends taken taken' (printed_in q.form shown answer)
  pub said : Says q.form reports faults faults' answer
  pub status : ended ≡ line_status answer

-- The beginning of what is printed for the right answer was written, and not all of it.
pub record AnswersInPart (q : Question) (hex : Bool) (left taken taken' : Option (List ℕ)) : Type 0 where
  pub answer : Answer
  pub count : ℕ
  pub shown : List ℕ
  pub right : IsRightFor q hex left answer shown
  pub cut : count < length (printed_in q.form shown answer)
  pub written : Appends taken taken' (take count (printed_in q.form shown answer))
