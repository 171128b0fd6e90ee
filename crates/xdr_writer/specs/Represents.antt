-- Which items a writer has taken.
use Rattle.std.specs.Prelude.{◌≡◌, ℕ, ℤ, Bool, true, false, List, [], ◌∷◌, ◌++◌, length, Some, None}
use Rattle.xdr_types.specs.Kinds as xdr
use Rattle.xdr_types.specs.Kinds.{KindView, Lists}
use Rattle.xdr_types.specs.Tree.{Tree}
use Rattle.xdr_types.specs.Fits.{Fits}
use Rattle.xdr_types.specs.Spelling.{bytes_of}
use Rattle.xdr_types.specs.Within.{Bounds}
use Rattle.xdr_types.specs.declared.kind.KindId.{KindId}
use Rattle.xdr_codec.specs.Checks as checks
use Rattle.xdr_writer.specs.Items.{ItemView, number, NodeItem, of_node, all_spelled, items}
use Rattle.xdr_writer.specs.ItemsOf.{node_items_of, items_of}
use Rattle.xdr_writer.specs.declared.refusal.WriteRefusal.{WriteRefusal}
use Rattle.xdr_writer.specs.declared.writer.Writer.{Writer}

-- the kinds of its schema
abbrev pub kinds_of : Writer → List KindView
kinds_of w = checks.kinds_of w.checker

-- the place of the kind of the value that it writes
abbrev pub kind_of : Writer → ℕ
kind_of w = (checks.kind_of w.checker).place

-- the items of nodes begin each value whose bytes begin with theirs, and each value that begins with these items
pub record Begin (kinds : List KindView) (kind : ℕ) (is : List NodeItem) : Type 0 where
  pub by_bytes : (v : Tree) (more : List ℕ) → Fits kinds kind v → bytes_of kinds kind v ≡ all_spelled is ++ more
      → (rest : List NodeItem) × (node_items_of kinds kind v ≡ is ++ rest)
  pub by_items : (v : Tree) (more : List ItemView) → Fits kinds kind v → items_of kinds kind v ≡ items is ++ more
      → (rest : List NodeItem) × (node_items_of kinds kind v ≡ is ++ rest)

-- the kind of integers of one unit, signed or not (RFC 4506 sections 4.1, 4.2)
abbrev pub word_kind : (signed : Bool) → KindView
word_kind true = xdr.int
word_kind false = xdr.unsigned

-- these numbers, each of a node of this kind
abbrev pub numbers_in : KindView → List ℤ → List NodeItem
numbers_in kind [] = []
numbers_in kind (z ∷ zs) = of_node kind (number z) ∷ numbers_in kind zs

-- in each value that begins with these items the next are so many numbers of nodes of this kind
abbrev pub AreDue : List KindView → (kind : ℕ) → (is : List NodeItem) → (left : ℕ) → (node : KindView) → Type 0
AreDue kinds kind is left node = (v : Tree) (rest : List NodeItem) → Fits kinds kind v
    → node_items_of kinds kind v ≡ is ++ rest
    → (zs : List ℤ) × (more : List NodeItem) × (rest ≡ numbers_in node zs ++ more) × (length zs ≡ left)

-- the writer's fields stand for these items, all that it has taken; it has refused none
pub record RepresentsItems (w : Writer) (is : List NodeItem) : Type 0 where
  pub goes_on : w.refused ≡ None
  pub bytes : checks.RepresentsBytes w.checker (all_spelled is)
  pub written : w.written ≡ length (all_spelled is)
  pub count : w.count ≡ length is
  pub begin : Begin (kinds_of w) (kind_of w) is
  pub due : AreDue (kinds_of w) (kind_of w) is w.known.run.left (word_kind w.known.run.signed)

-- this refusal was answered
abbrev pub HasRefused : Writer → WriteRefusal → Type 0
HasRefused w f = w.refused ≡ Some f

-- the settings of a new writer
pub record IsStarted (w : Writer) (schema : Lists) (kind : KindId) (limits : Bounds) : Type 0 where
  pub checker : checks.IsStarted w.checker schema kind limits
  pub limits_are : w.limits ≡ limits

-- the settings stay
pub record IsSame (a b : Writer) : Type 0 where
  pub checker : checks.IsSame a.checker b.checker
  pub limits_are : b.limits ≡ a.limits
