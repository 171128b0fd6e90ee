-- Numbers that are put one after another.
use Rattle.std.specs.Prelude.{◌≡◌, ℕ, ◌<◌, ℤ, List, [], ◌∷◌, ◌++◌, length, Option, IfSome, None}
use Rattle.xdr_writer.specs.Items.{ItemView, number, NodeItem, all_spelled, items}
use Rattle.xdr_writer.specs.Represents.{RepresentsItems, Begin, kinds_of, kind_of}
use Rattle.xdr_writer.specs.Answers.{Takes, Refuses, IsKnown, HasNoValue}
use Rattle.xdr_writer.specs.declared.refusal.WriteRefusal.{WriteRefusal}
use Rattle.xdr_writer.specs.declared.item.Step.{Step}
use Rattle.xdr_writer.specs.declared.writer.Writer.{Writer}

-- the numbers as items
abbrev pub as_items : List ℤ → List ItemView
as_items [] = []
as_items (z ∷ zs) = number z ∷ as_items zs

-- What a call that takes all of these numbers leaves: each is an item of a node of some kind, they stand behind the
-- items so far, and their bytes behind those before. The last of them brings this step.
pub record TookAll (a b : Writer) (is : List NodeItem) (zs : List ℤ) (before after : List ℕ) (last : Option Step)
    : Type 0 where
  pub more : List NodeItem
  pub numbers : items more ≡ as_items zs
  pub represents : RepresentsItems b (is ++ more)
  pub bytes : after ≡ before ++ all_spelled more
  pub takes : IfSome last (λ s. Takes (kinds_of a) (kind_of a) a.limits (is ++ more) s)
  pub none : last ≡ None → zs ≡ []

-- What a call that refuses one of these numbers says and leaves: those before it are taken, each as an item of a node
-- of some kind, and their bytes written. No value has all of these and then this one.
pub record RejectsOne (a b : Writer) (is : List NodeItem) (zs : List ℤ) (before after : List ℕ) (f : WriteRefusal)
    : Type 0 where
  pub taken : List ℤ
  pub bad : ℤ
  pub later : List ℤ
  pub split : zs ≡ taken ++ bad ∷ later
  pub more : List NodeItem
  pub numbers : items more ≡ as_items taken
  pub bytes : after ≡ before ++ all_spelled more
  pub begin : Begin (kinds_of a) (kind_of a) (is ++ more)
  pub takes : 0 < length taken → (s : Step) × Takes (kinds_of a) (kind_of a) a.limits (is ++ more) s
  pub refuses : Refuses (kinds_of a) (kind_of a) a.limits (is ++ more) (number bad) f.why
  pub item : f.item ≡ length (is ++ more)
  pub no_value : IsKnown f.why → HasNoValue (kinds_of a) (kind_of a) a.limits (is ++ more) (number bad)
