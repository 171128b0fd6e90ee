-- The answer to items, and what it is by a kind that the name names.
use Rattle.std.proofs.Common.{ℕ, List, Some}
use Rattle.xdr_types.specs.Within.{AreBounds}
use Rattle.xdr_lang.specs.Declarations.{Declared}
use Rattle.c_answers.specs.Buffers.{IsRetained}
use Rattle.c_values.specs.declared.answer.Answer.{Answer}
use Rattle.c_values.specs.declared.answer.Answer.TheVariants as answer
use Rattle.c_values.specs.Answers.{Question, Names, question}
use Rattle.c_values.specs.Items.{Given}
use Rattle.c_values.specs.Written.{IsWritten, IsWrittenBy, IsWrittenByHeld}
use Rattle.c_values.specs.Private.Writing.{IsUnwritten}

-- where the items are not written nothing is
pub unwritten : (q : Question) (g : Given) (old new : List ℕ) (written : ℕ) (a : Answer) → IsUnwritten q g a
    → IsRetained old new written → IsWritten q g old new written a
unwritten q g old new written (answer.BadItem f) u k = (u, k)
unwritten q g old new written answer.NoMemory u k = k
unwritten q g old new written (answer.Whole n) u k = absurd u
unwritten q g old new written (answer.Followed n) u k = absurd u
unwritten q g old new written (answer.Refused f) u k = absurd u
unwritten q g old new written (answer.Undeclared f) u k = absurd u
unwritten q g old new written answer.NoKind u k = absurd u
unwritten q g old new written answer.BadLimits u k = absurd u
unwritten q g old new written answer.NoDeclarations u k = absurd u
unwritten q g old new written (answer.NoRoom n) u k = absurd u

module _ (d : Declared) (name : List ℕ) (depth bytes : ℕ) (g : Given) (old new : List ℕ) (written place : ℕ)
    (names : Names d name place) (in_range : AreBounds depth bytes) where
  by_name : (a : Answer) → IsWritten (question d place depth bytes) g old new written a
      → IsWrittenBy d name depth bytes g old new written a
  by_name a h = record { place = place; names = names; in_range = in_range; right = h }

  pub written_by : (a : Answer) → IsWritten (question d place depth bytes) g old new written a
      → IsWrittenByHeld (Some d) name depth bytes g old new written a
  written_by (answer.Whole n) h = by_name (answer.Whole n) h
  written_by (answer.BadItem f) h = by_name (answer.BadItem f) h
  written_by answer.NoMemory h = by_name answer.NoMemory h
  written_by (answer.NoRoom n) h = by_name (answer.NoRoom n) h
  written_by (answer.Followed n) h = absurd h
  written_by (answer.Refused f) h = absurd h
  written_by (answer.Undeclared f) h = absurd h
  written_by answer.NoKind h = absurd h
  written_by answer.BadLimits h = absurd h
  written_by answer.NoDeclarations h = absurd h
