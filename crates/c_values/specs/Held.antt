-- What a handle holds, and what is asked by it.
use Rattle.std.specs.Prelude.{◌≡◌, ℕ, List, Option, Some, None}
use Rattle.xdr_lang.specs.Declarations.{Declared}
use Rattle.xdr_lang.specs.Means.{Means}
use Rattle.c_values.specs.declared.answer.Answer.{Answer}
use Rattle.c_values.specs.declared.answer.Answer.TheVariants as answer
use Rattle.c_values.specs.Answers.{IsRight}
use Rattle.c_values.specs.Unread.{IsUndeclared}

-- what reading a text answers, and what is held then: what the text means, or nothing
abbrev pub IsReading : (text : List ℕ) → (held : Option Declared) → Answer → Type 0
IsReading text held (answer.Whole used) = (used ≡ 0) × (d : Declared) × Means text d × (held ≡ Some d)
IsReading text held (answer.Undeclared f) = IsUndeclared text f × (held ≡ None)
IsReading text held answer.NoMemory = held ≡ None
IsReading text held _ = ⊥

-- the answer is right by what is held
abbrev pub IsRightByHeld : (held : Option Declared) → (name : List ℕ) → (depth bytes : ℕ) → (input : List ℕ) → Answer
    → Type 0
IsRightByHeld None name depth bytes input a = a ≡ answer.NoDeclarations
IsRightByHeld (Some d) name depth bytes input a = IsRight d name depth bytes input a
