-- What writing a value by its items leaves in a buffer (RFC 4506 section 4).
use Rattle.std.specs.Prelude.{◌≡◌, ◌<◌, ℕ, List, [], ◌∷◌, ◌++◌, length, Option, Some, None}
use Rattle.xdr_types.specs.Tree.{Tree}
use Rattle.xdr_types.specs.Spelling.{bytes_of}
use Rattle.xdr_types.specs.Within.{AreBounds, FitsWithin}
use Rattle.xdr_writer.specs.Items.{ItemView, NodeItem, items}
use Rattle.xdr_writer.specs.ItemsOf.{items_of}
use Rattle.xdr_writer.specs.Represents.{Begin}
use Rattle.xdr_writer.specs.Answers.{Refuses, Takes, IsBegun, IsKnown}
use Rattle.xdr_writer.specs.declared.item.Step.{Step}
use Rattle.xdr_lang.specs.Declarations.{Declared}
use Rattle.c_answers.specs.Buffers.{IsRetained}
use Rattle.c_values.specs.declared.item.ValueItem.{ValueItem}
use Rattle.c_values.specs.declared.item.ItemWhy.{ItemWhy}
use Rattle.c_values.specs.declared.item.ItemWhy.TheVariants as fault
use Rattle.c_values.specs.declared.answer.Answer.{Answer}
use Rattle.c_values.specs.declared.answer.Answer.TheVariants as answer
use Rattle.c_values.specs.Answers.{Question, Names, NamesNone, question}
use Rattle.c_values.specs.Buffer.{IsPut}
use Rattle.c_values.specs.Items.{Given, Tells, AreTold, IsUntold}

-- The bytes are the encoding of a value of the kind within the limits, whose items are the ones given.
pub record IsEncoded (q : Question) (g : Given) (bytes : List ℕ) : Type 0 where
  pub value : Tree
  pub fits : FitsWithin q.kinds q.place q.limits value
  pub told : AreTold g.content g.items (items_of q.kinds q.place value)
  pub spelled : bytes_of q.kinds q.place value ≡ bytes

-- no value of the kind within the limits has items that begin with these
abbrev pub HasNoneWith : Question → (bytes : List ℕ) → List ValueItem → Type 0
HasNoneWith q bytes cs = (v : Tree) (is rest : List ItemView) → FitsWithin q.kinds q.place q.limits v
    → AreTold bytes cs is → items_of q.kinds q.place v ≡ is ++ rest → ⊥

-- no value of the kind within the limits has these items alone
abbrev pub HasNoneOf : Question → Given → Type 0
HasNoneOf q g = (v : Tree) → FitsWithin q.kinds q.place q.limits v
    → AreTold g.content g.items (items_of q.kinds q.place v) → ⊥

-- These items were all taken one by one: they tell items of nodes, which begin each value whose bytes begin with
-- theirs, and with the last of them a value is begun or whole.
pub record AreTaken (q : Question) (bytes : List ℕ) (cs : List ValueItem) (is : List NodeItem) : Type 0 where
  pub told : AreTold bytes cs (items is)
  pub begin : Begin q.kinds q.place is
  pub takes : 0 < length cs → (s : Step) × Takes q.kinds q.place q.limits is s

-- why an item is refused behind others: it tells none, or the writer refuses what it tells, but not for memory
abbrev pub IsFault : Question → (bytes : List ℕ) → (is : List NodeItem) → ValueItem → ItemWhy → Type 0
IsFault q bytes is c (fault.Refused w) =
    (i : ItemView) × Tells bytes c i × IsKnown w × Refuses q.kinds q.place q.limits is i w
IsFault q bytes is c w = IsUntold bytes c w

-- The item behind so many others, which were taken, is refused for this reason, and no value has them and then it.
pub record IsBadItem (q : Question) (g : Given) (at : ℕ) (w : ItemWhy) : Type 0 where
  pub before : List ValueItem
  pub item : ValueItem
  pub after : List ValueItem
  pub split : g.items ≡ before ++ item ∷ after
  pub place : at ≡ length before
  pub is : List NodeItem
  pub taken : AreTaken q g.content before is
  pub why : IsFault q g.content is item w
  pub none : HasNoneWith q g.content (before ++ item ∷ [])

-- All items are taken, with the last of them a value is only begun, and none has these alone.
pub record AreTooFew (q : Question) (g : Given) (at : ℕ) : Type 0 where
  pub place : at ≡ length g.items
  pub begun : 0 < length g.items
      → (is : List NodeItem) × AreTold g.content g.items (items is) × IsBegun q.kinds q.place q.limits is
  pub none : HasNoneOf q g

-- the items are refused for this reason at this place: too few of them behind the last, else at an item
abbrev pub AreBad : Question → Given → (at : ℕ) → ItemWhy → Type 0
AreBad q g at fault.Unfinished = AreTooFew q g at
AreBad q g at w = IsBadItem q g at w

-- The encoding does not go into the buffer.
pub record HasNoSpace (q : Question) (g : Given) (old : List ℕ) (needed : ℕ) : Type 0 where
  pub bytes : List ℕ
  pub right : IsEncoded q g bytes
  pub count : needed ≡ length bytes
  pub more : length old < needed

-- the answer is right for the items, and this stands in the buffer
abbrev pub IsWritten : Question → Given → (old new : List ℕ) → (written : ℕ) → Answer → Type 0
IsWritten q g old new written (answer.Whole used) =
    (bytes : List ℕ) × IsEncoded q g bytes × IsPut bytes old new written × (used ≡ written)
IsWritten q g old new written (answer.BadItem f) = AreBad q g f.at f.why × IsRetained old new written
IsWritten q g old new written answer.NoMemory = IsRetained old new written
IsWritten q g old new written (answer.NoRoom needed) = HasNoSpace q g old needed × IsRetained old new written
IsWritten q g old new written _ = ⊥

-- The answer is right for items of a value of the kind of that name within limits in range.
pub record IsWrittenBy (d : Declared) (name : List ℕ) (depth bytes : ℕ) (g : Given) (old new : List ℕ) (written : ℕ)
    (a : Answer) : Type 0 where
  pub place : ℕ
  pub names : Names d name place
  pub in_range : AreBounds depth bytes
  pub right : IsWritten (question d place depth bytes) g old new written a

-- the answer is right by what is held; the name is looked at before the limits
abbrev pub IsWrittenByHeld : (held : Option Declared) → (name : List ℕ) → (depth bytes : ℕ) → Given
    → (old new : List ℕ) → (written : ℕ) → Answer → Type 0
IsWrittenByHeld None name depth bytes g old new written a = (a ≡ answer.NoDeclarations) × IsRetained old new written
IsWrittenByHeld (Some d) name depth bytes g old new written answer.NoKind =
    NamesNone d name × IsRetained old new written
IsWrittenByHeld (Some d) name depth bytes g old new written answer.BadLimits =
    ((place : ℕ) × Names d name place) × (AreBounds depth bytes → ⊥) × IsRetained old new written
IsWrittenByHeld (Some d) name depth bytes g old new written a = IsWrittenBy d name depth bytes g old new written a
