-- What showing the value that begins an input leaves in a buffer: a line for each part of it (RFC 4506 section 4).
use Rattle.std.specs.Prelude.{◌≡◌, ◌<◌, ℕ, List, length, Option, Some, None}
use Rattle.xdr_types.specs.Within.{AreBounds}
use Rattle.xdr_show.specs.Shown.{show_text}
use Rattle.xdr_lang.specs.Declarations.{Declared}
use Rattle.c_values.specs.declared.answer.Answer.{Answer}
use Rattle.c_values.specs.declared.answer.Answer.TheVariants as answer
use Rattle.c_values.specs.Answers.{Question, BeginsWithValue, IsRefusal, Names, NamesNone, question}
use Rattle.c_answers.specs.Buffers.{IsRetained}
use Rattle.c_values.specs.Buffer.{IsPut}

-- The lines are those of the value whose encoding is the first bytes.
pub record AreLines (q : Question) (input lines : List ℕ) (used : ℕ) : Type 0 where
  pub begins : BeginsWithValue q input used
  pub shown : lines ≡ show_text q.kinds q.place begins.value

-- The lines do not go into the buffer.
pub record HaveNoRoom (q : Question) (input old : List ℕ) (needed : ℕ) : Type 0 where
  pub lines : List ℕ
  pub used : ℕ
  pub right : AreLines q input lines used
  pub count : needed ≡ length lines
  pub more : length old < needed

-- the answer is right for the bytes, and this stands in the buffer
abbrev pub IsShown : Question → (input old new : List ℕ) → (written : ℕ) → Answer → Type 0
IsShown q input old new written (answer.Whole used) =
    (lines : List ℕ) × AreLines q input lines used × (used ≡ length input) × IsPut lines old new written
IsShown q input old new written (answer.Followed used) =
    (lines : List ℕ) × AreLines q input lines used × (used < length input) × IsPut lines old new written
IsShown q input old new written (answer.Refused f) = IsRefusal q input f × IsRetained old new written
IsShown q input old new written answer.NoMemory = IsRetained old new written
IsShown q input old new written (answer.NoRoom needed) = HaveNoRoom q input old needed × IsRetained old new written
IsShown q input old new written _ = ⊥

-- The answer is right for bytes as a value of the kind of that name within limits in range.
pub record IsShownBy (d : Declared) (name : List ℕ) (depth bytes : ℕ) (input old new : List ℕ) (written : ℕ)
    (a : Answer) : Type 0 where
  pub place : ℕ
  pub names : Names d name place
  pub in_range : AreBounds depth bytes
  pub shown : IsShown (question d place depth bytes) input old new written a

-- the answer is right by what is held; the name is looked at before the limits
abbrev pub IsShownByHeld : (held : Option Declared) → (name : List ℕ) → (depth bytes : ℕ) → (input old new : List ℕ)
    → (written : ℕ) → Answer → Type 0
IsShownByHeld None name depth bytes input old new written a = (a ≡ answer.NoDeclarations) × IsRetained old new written
IsShownByHeld (Some d) name depth bytes input old new written answer.NoKind =
    NamesNone d name × IsRetained old new written
IsShownByHeld (Some d) name depth bytes input old new written answer.BadLimits =
    ((place : ℕ) × Names d name place) × (AreBounds depth bytes → ⊥) × IsRetained old new written
IsShownByHeld (Some d) name depth bytes input old new written a = IsShownBy d name depth bytes input old new written a
