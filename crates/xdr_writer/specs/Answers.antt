-- What a writer's answers say of the items that it has taken and of the next.
use Rattle.std.specs.Prelude.{◌≡◌, ℕ, ◌+◌, ◌<◌, ◌≤◌, ◌⊎◌, List, [], ◌∷◌, ◌++◌, length, take, ⊤}
use Rattle.std.specs.Prelude.{Result, Err, IfErr, OnErr}
use Rattle.xdr_units.specs.Numbers.{padded}
use Rattle.xdr_types.specs.Kinds.{KindView, kind_at}
use Rattle.xdr_types.specs.Tree.{Tree}
use Rattle.xdr_types.specs.Fits.{Fits}
use Rattle.xdr_types.specs.Spelling.{bytes_of}
use Rattle.xdr_types.specs.Within.{Bounds, FitsWithin}
use Rattle.xdr_types.specs.Layout.{Entry}
use Rattle.xdr_types.specs.Outcome as outcome
use Rattle.xdr_types.specs.Outcome.{Outcome}
use Rattle.xdr_stream.specs.Represents as reported
use Rattle.xdr_stream.specs.declared.fault.DecodeFault.{DecodeFault}
use Rattle.xdr_stream.specs.declared.fault.Reason.TheVariants as reason
use Rattle.xdr_writer.specs.Items.{ItemView, number, flag, count, content, NodeItem, of_node, spelled_as}
use Rattle.xdr_writer.specs.Items.{all_spelled, items}
use Rattle.xdr_writer.specs.ItemsOf.{node_items_of, items_of}
use Rattle.xdr_writer.specs.Forms.{HasForm, IsInRange, HasRange, IsNext}
use Rattle.xdr_writer.specs.Represents.{RepresentsItems, HasRefused, IsSame, kinds_of, kind_of}
use Rattle.xdr_writer.specs.declared.refusal.Why.{Why}
use Rattle.xdr_writer.specs.declared.refusal.Why.TheVariants as why
use Rattle.xdr_writer.specs.declared.refusal.WriteRefusal.{WriteRefusal}
use Rattle.xdr_writer.specs.declared.item.Step.{Step}
use Rattle.xdr_writer.specs.declared.item.Step.TheVariants as step
use Rattle.xdr_writer.specs.declared.writer.Writer.{Writer}

-- some value begins with the items and has more, none has these alone, and decoding their bytes has not ended
pub record IsBegun (kinds : List KindView) (kind : ℕ) (limits : Bounds) (is : List NodeItem) : Type 0 where
  pub begins : (v : Tree) × Fits kinds kind v × (next : NodeItem) × (rest : List NodeItem)
      × (node_items_of kinds kind v ≡ is ++ next ∷ rest)
  pub unfinished : (v : Tree) → Fits kinds kind v → items_of kinds kind v ≡ items is → ⊥
  pub outcome : Outcome kinds kind limits (all_spelled is) outcome.Pending

-- the bytes are the encoding of a value of the kind within the limits
abbrev pub IsEncoding : List KindView → (kind : ℕ) → Bounds → (b : List ℕ) → Type 0
IsEncoding kinds kind limits b = (v : Tree) × FitsWithin kinds kind limits v × (bytes_of kinds kind v ≡ b)

-- the items are those of a value of the kind within the limits, and their bytes are its encoding
abbrev pub IsWritten : List KindView → (kind : ℕ) → Bounds → (is : List NodeItem) → Type 0
IsWritten kinds kind limits is =
    (v : Tree) × FitsWithin kinds kind limits v × (node_items_of kinds kind v ≡ is)
    × (bytes_of kinds kind v ≡ all_spelled is)

-- what an answer that takes an item says of all items with it
abbrev pub Takes : List KindView → (kind : ℕ) → Bounds → (is : List NodeItem) → Step → Type 0
Takes kinds kind limits is step.More = IsBegun kinds kind limits is
Takes kinds kind limits is step.Done = IsWritten kinds kind limits is

-- what a call that takes an item leaves: the item is of a node of this kind, its bytes stand behind those before
pub record Took (a b : Writer) (is : List NodeItem) (i : ItemView) (before after : List ℕ) (s : Step) : Type 0 where
  pub kind : KindView
  pub represents : RepresentsItems b (is ++ of_node kind i ∷ [])
  pub bytes : after ≡ before ++ spelled_as kind i
  pub takes : Takes (kinds_of a) (kind_of a) a.limits (is ++ of_node kind i ∷ []) s

-- the item comes next, at an entry whose form it has, its number in range, and this is said of its bytes
abbrev pub NextBytes : List KindView → (kind : ℕ) → (b : List ℕ) → ItemView → (Said : List ℕ → Type 0) → Type 0
NextBytes kinds kind b i Said =
    (e : Entry) × IsNext kinds kind b e × HasForm (kind_at kinds e.kind) e.role i
    × HasRange kinds (kind_at kinds e.kind) i × Said (spelled_as (kind_at kinds e.kind) i)

-- the fault is not that memory was refused
abbrev pub IsOfBytes : DecodeFault → Type 0
IsOfBytes f = f.why ≡ reason.NoMemory → ⊥

-- decoding the bytes b has not ended
abbrev pub IsPending : List KindView → (kind : ℕ) → Bounds → (b : List ℕ) → Type 0
IsPending kinds kind limits b = Outcome kinds kind limits b outcome.Pending

-- What a refusal says of the items so far and the next. Of more than one reason the first counts: what decoding the
-- bytes so far says, the item's form, its range, the limit on bytes, and what decoding its bytes says.
abbrev pub Refuses : List KindView → (kind : ℕ) → Bounds → (is : List NodeItem) → ItemView → Why → Type 0
Refuses kinds kind limits is i why.WrongItem =
    IsPending kinds kind limits (all_spelled is)
    × (e : Entry) × IsNext kinds kind (all_spelled is) e × (HasForm (kind_at kinds e.kind) e.role i → ⊥)
Refuses kinds kind limits is i why.NotInRange =
    IsPending kinds kind limits (all_spelled is)
    × (e : Entry) × IsNext kinds kind (all_spelled is) e × HasForm (kind_at kinds e.kind) e.role i
    × (IsInRange kinds (kind_at kinds e.kind) i → ⊥)
Refuses kinds kind limits is i (why.Refused f) =
    IsOfBytes f × (reported.Fails kinds kind limits f (all_spelled is)
    ⊎ NextBytes kinds kind (all_spelled is) i
    (λ u. (length (all_spelled is ++ u) ≤ limits.bytes)
    × reported.Fails kinds kind limits f (all_spelled is ++ u)))
Refuses kinds kind limits is i why.PastEnd =
    IsEncoding kinds kind limits (all_spelled is)
    ⊎ NextBytes kinds kind (all_spelled is) i
    (λ u. (length (all_spelled is ++ u) ≤ limits.bytes)
    × (n : ℕ) × (n < length u) × IsEncoding kinds kind limits (all_spelled is ++ take n u))
Refuses kinds kind limits is i why.PastLimit =
    IsPending kinds kind limits (all_spelled is)
    × NextBytes kinds kind (all_spelled is) i (λ u. limits.bytes < length (all_spelled is ++ u))
Refuses kinds kind limits is i why.Unfinished = ⊥
Refuses kinds kind limits is i why.NoMemory = ⊤

-- the reason is not that memory was refused
abbrev pub IsKnown : Why → Type 0
IsKnown why.NoMemory = ⊥
IsKnown _ = ⊤

-- no value of the kind within the limits has the items so far and then this one
abbrev pub HasNoValue : List KindView → (kind : ℕ) → Bounds → (is : List NodeItem) → ItemView → Type 0
HasNoValue kinds kind limits is i =
    (v : Tree) (rest : List ItemView) → FitsWithin kinds kind limits v
    → items_of kinds kind v ≡ items is ++ i ∷ rest → ⊥

-- What a refusal of an item says and leaves: the reason, and the count of the items before it; that no value has them
-- and then this one. Nothing of it is written, and the refusal stays.
pub record Rejects (a b : Writer) (i : ItemView) (before after : List ℕ) (answer : Result Step WriteRefusal)
    : Type 0 where
  pub refuses : IfErr answer (λ f. (is : List NodeItem) → RepresentsItems a is
      → Refuses (kinds_of a) (kind_of a) a.limits is i f.why × (f.item ≡ length is))
  pub no_value : IfErr answer (λ f. (is : List NodeItem) → RepresentsItems a is → IsKnown f.why
      → HasNoValue (kinds_of a) (kind_of a) a.limits is i)
  pub retained : OnErr answer (after ≡ before)
  pub refused : IfErr answer (λ f. HasRefused b f)

-- what stays: a refusal that was answered comes again, and the settings
pub record Stays (a b : Writer) (answer : Result Step WriteRefusal) : Type 0 where
  pub for_ever : (f : WriteRefusal) → HasRefused a f → answer ≡ Err f
  pub same : IsSame a b

-- the most bytes that an item has in a node of any kind: two units of a number, content with its length before it and
-- the zeros after it (RFC 4506 sections 3 and 4)
abbrev pub most_bytes : ItemView → ℕ
most_bytes (number z) = 8
most_bytes (flag b) = 4
most_bytes (count n) = 4
most_bytes (content bs) = 4 + length (padded bs)

-- ---- the end

-- no value of the kind within the limits has these items and no more
abbrev pub HasNoWhole : List KindView → (kind : ℕ) → Bounds → (is : List NodeItem) → Type 0
HasNoWhole kinds kind limits is =
    (v : Tree) → FitsWithin kinds kind limits v → items_of kinds kind v ≡ items is → ⊥

-- why the items are not all of a value's: decoding their bytes has not ended, or ends without a value
abbrev pub RefusesEnd : List KindView → (kind : ℕ) → Bounds → (is : List NodeItem) → Why → Type 0
RefusesEnd kinds kind limits is why.Unfinished = Outcome kinds kind limits (all_spelled is) outcome.Pending
RefusesEnd kinds kind limits is (why.Refused f) = IsOfBytes f × reported.Fails kinds kind limits f (all_spelled is)
RefusesEnd kinds kind limits is _ = ⊥

-- what a refusal of the end says of the items: why they are no value's, that no value has them alone, and their count
pub record RejectsEnd (w : Writer) (answer : Result ℕ WriteRefusal) : Type 0 where
  pub refuses : IfErr answer (λ f. (is : List NodeItem) → RepresentsItems w is
      → RefusesEnd (kinds_of w) (kind_of w) w.limits is f.why)
  pub no_value : IfErr answer (λ f. (is : List NodeItem) → RepresentsItems w is
      → HasNoWhole (kinds_of w) (kind_of w) w.limits is)
  pub item : IfErr answer (λ f. (is : List NodeItem) → RepresentsItems w is → f.item ≡ length is)
