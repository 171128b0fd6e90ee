-- The first part of a value is the value itself.
use Rattle.std.proofs.Common.{◌≡◌, ℕ, ◌+◌, ◌≤◌, List, [], ◌∷◌, ◌++◌, length, Option, None, Some, refl, ap, subst}
use Rattle.std.proofs.Common.{◌∙◌, arith}
use Rattle.xdr_types.specs.Kinds as xdr
use Rattle.xdr_types.specs.Kinds.{KindView, Part, kind_at}
use Rattle.xdr_types.specs.Tree as value
use Rattle.xdr_types.specs.Tree.{Head, Tree}
use Rattle.xdr_types.specs.Fits.{item_part, parts}
use Rattle.xdr_types.specs.Spelling.{own}
use Rattle.xdr_types.specs.Layout.{Entry, entries, layout, shown, shown_bytes, shown_items}
use Rattle.xdr_lang.specs.Declarations.{Declared}
use Rattle.xdr_cursor.specs.declared.cursor.Cursor.{Cursor}
use Rattle.c_values.specs.Answers.{question}
use Rattle.c_values.specs.Statuses.{status_of}
use Rattle.c_values.specs.declared.answer.Answer.{Answer}
use Rattle.c_values.specs.declared.answer.Answer.TheVariants as answer
use Rattle.c_cursors.specs.declared.given.Given.{Given}
use Rattle.c_cursors.specs.declared.given.Given.TheVariants as given
use Rattle.c_cursors.specs.Given.{given_status}
use Rattle.c_cursors.specs.Begun.{HoldsAll, IsBegunByHeld}
use Rattle.c_cursors.specs.Giving.{Lends, IsNext, IsGivenByHandle, IsGivenByHeld}

-- the first of these parts begins at 0, and has depth 1
abbrev IsRoot : List Entry → Type 0
IsRoot [] = ⊥
IsRoot (e ∷ es) = (e.at ≡ 0) × (e.depth ≡ 1)

bytes_root : (p : Part) (k : KindView) (n : ℕ) (more : List Entry) → IsRoot (shown_bytes 0 1 p k n ++ more)
bytes_root p (xdr.opaque size) n more = (refl, refl)
bytes_root p _ n more = (refl, refl)

items_root : (p : Part) (k : KindView) (more : List Entry) → IsRoot (shown_items 0 1 p k ++ more)
items_root p (xdr.fixed item size) more = (refl, refl)
items_root p _ more = (refl, refl)

shown_root : (p : Part) (k : KindView) (h : Head) (more : List Entry) → IsRoot (shown 0 1 p k h ++ more)
shown_root p k (value.int z) more = (refl, refl)
shown_root p k (value.unsigned n) more = (refl, refl)
shown_root p k (value.hyper z) more = (refl, refl)
shown_root p k (value.unsigned_hyper n) more = (refl, refl)
shown_root p k (value.boolean b) more = (refl, refl)
shown_root p k (value.numbered z) more = (refl, refl)
shown_root p k (value.bytes bs) more = bytes_root p k (length bs) more
shown_root p k (value.items n) more = items_root p k more
shown_root p k value.fields more = (refl, refl)
shown_root p k (value.tag z) more = (refl, refl)
shown_root p k value.present more = (refl, refl)
shown_root p k value.absent more = (refl, refl)
shown_root p k value.nothing more = (refl, refl)

entries_root : (s : List KindView) (t : ℕ) (v : Tree) → IsRoot (entries s t v)
entries_root s t v =
    shown_root (item_part t) (kind_at s t) v.0
    (layout s (0 + length (own (kind_at s t) v.0)) (1 + 1) (parts (kind_at s t) v.0) v.1 ++ [])

-- a part that is given of them is the first
abbrev IsRootPart : Lends → Type 0
IsRootPart l = (l.part.at ≡ 0) × (l.part.depth ≡ 1)

next_root : (kinds : List KindView) (input : List ℕ) (es : List Entry) (c : Cursor) (old new : Lends) (g : Given)
    → IsRoot es → IsNext kinds input es c old new g → 0 ≡ given_status g → IsRootPart new
next_root kinds input es c old new given.Done root is e =
    let first = subst IsRoot is.2 root in (is.3.part.at ∙ first.0, is.3.part.depth ∙ first.1)
next_root kinds input es c old new given.NoMemory root is e = absurd (omega (arith, e))
next_root kinds input es c old new given.NoDeclarations root is e = absurd (omega (arith, e))
next_root kinds input es c old new given.NoRoom root is e = absurd (omega (arith, e))
next_root kinds input es c old new given.NoPart root is e = absurd (omega (arith, e))
next_root kinds input es c old new given.NoCursor root is e = absurd (omega (arith, e))
next_root kinds input es c old new given.Astray root is e = absurd (omega (arith, e))

held_root : (d : Declared) (place depth bytes : ℕ) (input : List ℕ) (held left : Option Cursor) (old new : Lends)
    (g : Given) (used : ℕ) → HoldsAll (question d place depth bytes) input held used
    → IsGivenByHeld (Some d) input held left old new g → 0 ≡ given_status g → IsRootPart new
held_root d place depth bytes input held left old new g used h is e =
    let kinds : List KindView = d.schema.kinds in
    let es : List Entry = entries kinds place h.begins.value in
    let t = subst (λ (o : Option Cursor). IsGivenByHandle kinds input o left old new g) h.held_is is in
    next_root kinds input es t.0 old new g (entries_root kinds place h.begins.value) (t.2.next es h.awaits) e

-- behind a start that tells of a value the first part is its root
pub root_given : (held : Option Declared) (name : List ℕ) (depth bytes : ℕ) (input : List ℕ)
    (before begun left : Option Cursor) (a : Answer) → IsBegunByHeld held name depth bytes input before begun a
    → status_of a ≤ 1 → (old new : Lends) (g : Given) → IsGivenByHeld held input begun left old new g
    → 0 ≡ given_status g → IsRootPart new
root_given None name depth bytes input before begun left a b low old new g is e =
    absurd (omega (arith, low, ap status_of b.0))
root_given (Some d) name depth bytes input before begun left (answer.Whole n) b low old new g is e =
    held_root d b.place depth bytes input begun left old new g n b.right.0 is e
root_given (Some d) name depth bytes input before begun left (answer.Followed n) b low old new g is e =
    held_root d b.place depth bytes input begun left old new g n b.right.0 is e
root_given (Some d) name depth bytes input before begun left (answer.Refused f) b low old new g is e =
    absurd (omega (arith, low))
root_given (Some d) name depth bytes input before begun left (answer.Undeclared f) b low old new g is e =
    absurd (omega (arith, low))
root_given (Some d) name depth bytes input before begun left answer.NoKind b low old new g is e =
    absurd (omega (arith, low))
root_given (Some d) name depth bytes input before begun left answer.BadLimits b low old new g is e =
    absurd (omega (arith, low))
root_given (Some d) name depth bytes input before begun left answer.NoMemory b low old new g is e =
    absurd (omega (arith, low))
root_given (Some d) name depth bytes input before begun left answer.NoDeclarations b low old new g is e =
    absurd (omega (arith, low))
root_given (Some d) name depth bytes input before begun left (answer.NoRoom needed) b low old new g is e =
    absurd (omega (arith, low))
root_given (Some d) name depth bytes input before begun left (answer.BadItem f) b low old new g is e =
    absurd (omega (arith, low))
