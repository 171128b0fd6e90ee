-- A value that is written an item at a time, as the code does it.
use Rattle.std.specs.Prelude.{◌≡◌, ◌<◌, ℕ, List, length, ⊤}
use Rattle.xdr_writer.specs.Items.{NodeItem, items, all_spelled}
use Rattle.xdr_writer.specs.Answers.{Takes, IsBegun, IsKnown}
use Rattle.xdr_writer.specs.Represents.{RepresentsItems, kinds_of, kind_of}
use Rattle.xdr_writer.specs.declared.refusal.Why.{Why}
use Rattle.xdr_writer.specs.declared.item.Step.{Step}
use Rattle.xdr_writer.specs.declared.item.Step.TheVariants as step
use Rattle.xdr_writer.specs.declared.writer.Writer.{Writer}
use Rattle.c_values.specs.declared.answer.Answer.{Answer}
use Rattle.c_values.specs.declared.answer.Answer.TheVariants as answer
use Rattle.c_values.specs.declared.item.ItemWhy.TheVariants as fault
use Rattle.c_values.specs.declared.item.ValueItem.{ValueItem}
use Rattle.c_values.specs.Answers.{Question}
use Rattle.c_values.specs.Items.{Given, AreTold}
use Rattle.c_values.specs.Written.{IsEncoded, HasNoneOf, AreBad}

-- what a writer is asked
abbrev pub asked : Writer → Question
asked w = record { kinds = kinds_of w; place = kind_of w; limits = w.limits }

-- the writer has taken what these items tell, and their bytes are out
pub record IsWriting (w : Writer) (bytes : List ℕ) (before : List ValueItem) (out : List ℕ) : Type 0 where
  pub is : List NodeItem
  pub represents : RepresentsItems w is
  pub told : AreTold bytes before (items is)
  pub spelled : out ≡ all_spelled is
  pub takes : 0 < length before → (s : Step) × Takes (kinds_of w) (kind_of w) w.limits is s

-- the items are taken, and a value is only begun
pub record AreBegun (q : Question) (g : Given) : Type 0 where
  pub is : List NodeItem
  pub told : AreTold g.content g.items (items is)
  pub begun : IsBegun q.kinds q.place q.limits is
  pub none : HasNoneOf q g

-- what the step with the last of the items says of them all
abbrev pub IsTaken : Question → Given → (out : List ℕ) → Step → Type 0
IsTaken q g out step.Done = IsEncoded q g out
IsTaken q g out step.More = AreBegun q g

-- the answer where the items are not written: why, or an allocation failure
abbrev pub IsUnwritten : Question → Given → Answer → Type 0
IsUnwritten q g (answer.BadItem f) = AreBad q g f.at f.why
IsUnwritten q g answer.NoMemory = ⊤
IsUnwritten q g _ = ⊥

-- the answer to an item that the writer refuses for this reason
abbrev pub Reports : Why → (at : ℕ) → Answer → Type 0
Reports w at (answer.BadItem f) = (f.why ≡ fault.Refused w) × (f.at ≡ at) × IsKnown w
Reports w at answer.NoMemory = ⊤
Reports w at _ = ⊥
