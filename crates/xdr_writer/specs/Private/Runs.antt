-- Which numbers of one unit are due one after another, and what becomes of them.
use Rattle.std.specs.Prelude.{◌≡◌, ℕ, ℤ, ◌⊎◌, ◌<◌, ◌≤◌, ◌+◌, ◌*◌, ◌%◌, Bool, true, List, [], ◌∷◌, ◌++◌, length, take, ⊤}
use Rattle.std.specs.Prelude.{Option, Result, IfErr, IfOk, Some}
use Rattle.xdr_units.specs.Numbers.{num4}
use Rattle.xdr_types.specs.Kinds as xdr
use Rattle.xdr_types.specs.Kinds.{KindView, kind_at}
use Rattle.xdr_types.specs.declared.kind.KindId.{KindId}
use Rattle.xdr_stream.specs.declared.fault.Reason.{Reason}
use Rattle.xdr_stream.specs.declared.fault.Reason.TheVariants as reason
use Rattle.xdr_due.specs.declared.due.Due.{Due}
use Rattle.xdr_due.specs.declared.due.Due.TheVariants as due
use Rattle.xdr_writer.specs.Items.{ItemView, count, NodeItem}
use Rattle.xdr_writer.specs.Represents.{word_kind}
use Rattle.xdr_writer.specs.Represents.{RepresentsItems, HasRefused, IsSame}
use Rattle.xdr_writer.specs.Runs.{TookAll, RejectsOne}
use Rattle.xdr_writer.specs.Private.Becomes.{in_word}
use Rattle.xdr_writer.specs.declared.refusal.Why.{Why}
use Rattle.xdr_writer.specs.declared.refusal.Why.TheVariants as why
use Rattle.xdr_writer.specs.declared.refusal.WriteRefusal.{WriteRefusal}
use Rattle.xdr_writer.specs.declared.item.Step.{Step}
use Rattle.xdr_writer.specs.declared.writer.Writer.{Writer}

-- where this is due, and the item is put, so many numbers of one unit are due: none, or as many as it counts
abbrev pub IsRun : List KindView → Due → ItemView → (left : ℕ) → (signed : Bool) → Type 0
IsRun kinds d i left signed =
    (left ≡ 0)
    ⊎ ((id : KindId) × (part : ℕ) × (max : ℕ) × (d ≡ due.Unit id) × (kind_at kinds id.place ≡ xdr.up_to part max)
    × (kind_at kinds part ≡ word_kind signed) × (i ≡ count left))

-- the bytes of numbers of one unit (RFC 4506 sections 4.1, 4.2)
abbrev pub words : List ℤ → List ℕ
words [] = []
words (z ∷ zs) = num4 z ++ words zs

-- each of the numbers has one unit
abbrev pub AreWords : (signed : Bool) → List ℤ → Type 0
AreWords signed [] = ⊤
AreWords signed (z ∷ zs) = (in_word signed z ≡ true) × AreWords signed zs

-- how many bytes come before the end of the unit with which decoding ends: a node too deep, or the limit, is found
-- behind it, another reason stands against it
abbrev pub end_of : Reason → (at : ℕ) → ℕ
end_of reason.TooDeep at = at
end_of reason.TooLarge at = at
end_of _ at = at + 4

-- so many of the numbers behind the bytes that are written come before the one that is refused
abbrev pub IsCount : Why → (written given before : ℕ) → Type 0
IsCount (why.Refused f) written given before =
    f.at ≤ 16777216 → written % 4 ≡ 0 → end_of f.why f.at % 4 ≡ 0 → written + 4 ≤ end_of f.why f.at
    → end_of f.why f.at ≤ written + 4 * given → written + 4 * (before + 1) ≡ end_of f.why f.at
IsCount _ written given before = before ≡ 0

-- the writer may be given so many numbers at once: they are due, there is space for them, and an item came before
pub record MayTake (w : Writer) (given : ℕ) : Type 0 where
  pub waits : w.known.waits ≡ true
  pub due : given ≤ w.known.run.left
  pub low : w.written + 4 * given ≤ w.limits.bytes
  pub begun : 0 < w.written

-- what a call that takes some of the numbers, at least the first, says and leaves: how many, and the last one's step
pub record TakesSome (a b : Writer) (zs : List ℤ) (before after : List ℕ) (r : Result (ℕ × Step) WriteRefusal)
    : Type 0 where
  pub some : IfOk r (λ t. (1 ≤ t.0) × (t.0 ≤ length zs))
  pub took : IfOk r (λ t. (is : List NodeItem) → RepresentsItems a is
      → TookAll a b is (take t.0 zs) before after (Some t.1))
  pub rejects : IfErr r (λ f. (is : List NodeItem) → RepresentsItems a is → RejectsOne a b is zs before after f)
  pub refused : IfErr r (λ f. HasRefused b f)
  pub same : IsSame a b

-- so many of the numbers are taken, and the last of them brought this step
pub record SoFar (a w : Writer) (zs : List ℤ) (at : ℕ) (before now : List ℕ) (last : Option Step) : Type 0 where
  pub same : IsSame a w
  pub low : at ≤ length zs
  pub took : (is : List NodeItem) → RepresentsItems a is → TookAll a w is (take at zs) before now last
