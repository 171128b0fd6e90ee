-- What marking the records of a buffer anew leaves in another (RFC 5531 section 11).
use Rattle.std.specs.Prelude.{◌≡◌, ℕ, ◌≤◌, ◌<◌, ◌^◌, List, length, Option, None, Some}
use Rattle.rpc_record.specs.Marked.{normal, Longest}
use Rattle.rpc_record.specs.Reading.{IsWhole, IsInside, TooLongAt, HasNoLong}
use Rattle.xdr_stream.specs.declared.fault.DecodeFault.{DecodeFault}
use Rattle.xdr_stream.specs.declared.fault.Reason.{Reason}
use Rattle.xdr_stream.specs.declared.fault.Reason.TheVariants as reason
use Rattle.c_values.specs.declared.answer.Answer.{Answer}
use Rattle.c_values.specs.declared.answer.Answer.TheVariants as answer
use Rattle.c_answers.specs.Buffers.{IsRetained}
use Rattle.c_values.specs.Buffer.{IsPut}

-- why the input is no stream of records within the limit, behind these records: a header that passes the limit, or the
-- input's end inside the next record, where no header passes the limit
abbrev pub StopsAs : (limit : ℕ) → (rs : List (List ℕ)) → (input : List ℕ) → Reason → (at : ℕ) → Type 0
StopsAs limit rs input reason.TooLong at = TooLongAt limit rs at input × Longest limit rs input
StopsAs limit rs input reason.Truncated at =
    (at ≡ length input) × IsInside limit rs input × Longest limit rs input × HasNoLong limit input
StopsAs limit rs input _ at = ⊥

-- how the records end: with the input, or where it is refused
abbrev pub EndsAs : (limit : ℕ) → (rs : List (List ℕ)) → (input : List ℕ) → Option DecodeFault → Type 0
EndsAs limit rs input None = IsWhole limit rs input
EndsAs limit rs input (Some f) = StopsAs limit rs input f.why f.at

-- The bytes are the normal form of the records at the front of the input, by a limit in its range.
pub record IsForm (limit : ℕ) (input form : List ℕ) (end : Option DecodeFault) : Type 0 where
  pub in_range : limit < 2 ^ 31
  pub rs : List (List ℕ)
  pub ends : EndsAs limit rs input end
  pub marked : form ≡ normal rs

-- The form does not go into the buffer.
pub record HasNoRoom (limit : ℕ) (input old : List ℕ) (needed : ℕ) : Type 0 where
  pub form : List ℕ
  pub end : Option DecodeFault
  pub right : IsForm limit input form end
  pub count : needed ≡ length form
  pub more : length old < needed

-- the answer to an input, and what stands in the buffer
abbrev pub IsMarked : (limit : ℕ) → (input old new : List ℕ) → (written : ℕ) → Answer → Type 0
IsMarked limit input old new written (answer.Whole used) =
    (form : List ℕ) × IsForm limit input form None × IsPut form old new written × (used ≡ written)
IsMarked limit input old new written (answer.Refused f) =
    (form : List ℕ) × IsForm limit input form (Some f) × IsPut form old new written
IsMarked limit input old new written answer.BadLimits = (2 ^ 31 ≤ limit) × IsRetained old new written
IsMarked limit input old new written answer.NoMemory = IsRetained old new written
IsMarked limit input old new written (answer.NoRoom needed) =
    HasNoRoom limit input old needed × IsRetained old new written
IsMarked limit input old new written _ = ⊥
