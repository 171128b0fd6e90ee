-- What starting a cursor over the parts of a value does (RFC 4506 section 4).
use Rattle.std.specs.Prelude.{◌≡◌, ◌<◌, ℕ, List, length, Option, Some, None}
use Rattle.xdr_types.specs.Layout.{entries}
use Rattle.xdr_types.specs.Within.{AreBounds}
use Rattle.xdr_lang.specs.Declarations.{Declared}
use Rattle.xdr_cursor.specs.Coming.{Awaits}
use Rattle.xdr_cursor.specs.declared.cursor.Cursor.{Cursor}
use Rattle.c_values.specs.declared.answer.Answer.{Answer}
use Rattle.c_values.specs.declared.answer.Answer.TheVariants as answer
use Rattle.c_values.specs.Answers.{Question, BeginsWithValue, IsRefusal, Names, NamesNone, question}

-- A value of so many bytes begins the input, and a cursor is held that has all its parts before it.
pub record HoldsAll (q : Question) (input : List ℕ) (held : Option Cursor) (used : ℕ) : Type 0 where
  pub begins : BeginsWithValue q input used
  pub cursor : Cursor
  pub held_is : held ≡ Some cursor
  pub awaits : Awaits cursor q.kinds input (entries q.kinds q.place begins.value)

-- the answer is right for the bytes, and this is held before and after
abbrev pub IsBegun : Question → (input : List ℕ) → (old new : Option Cursor) → Answer → Type 0
IsBegun q input old new (answer.Whole used) = HoldsAll q input new used × (used ≡ length input)
IsBegun q input old new (answer.Followed used) = HoldsAll q input new used × (used < length input)
IsBegun q input old new (answer.Refused f) = IsRefusal q input f × (new ≡ old)
IsBegun q input old new answer.NoMemory = new ≡ old
IsBegun q input old new _ = ⊥

-- The answer is right for bytes as a value of the kind of that name within limits in range.
pub record IsBegunBy (d : Declared) (name : List ℕ) (depth bytes : ℕ) (input : List ℕ) (old new : Option Cursor)
    (a : Answer) : Type 0 where
  pub place : ℕ
  pub names : Names d name place
  pub in_range : AreBounds depth bytes
  pub right : IsBegun (question d place depth bytes) input old new a

-- the answer is right by the declarations that are held; the name is looked at before the limits
abbrev pub IsBegunByHeld : (held : Option Declared) → (name : List ℕ) → (depth bytes : ℕ) → (input : List ℕ)
    → (old new : Option Cursor) → Answer → Type 0
IsBegunByHeld None name depth bytes input old new a = (a ≡ answer.NoDeclarations) × (new ≡ old)
IsBegunByHeld (Some d) name depth bytes input old new answer.NoKind = NamesNone d name × (new ≡ old)
IsBegunByHeld (Some d) name depth bytes input old new answer.BadLimits =
    ((place : ℕ) × Names d name place) × (AreBounds depth bytes → ⊥) × (new ≡ old)
IsBegunByHeld (Some d) name depth bytes input old new a = IsBegunBy d name depth bytes input old new a
