-- The parts of an integer, and of a structure.
use Rattle.std.proofs.Common.{◌≡◌, ℕ, ◌+◌, ℤ, List, [], ◌∷◌, ◌++◌, length, refl, sym, ap, subst, ◌∙◌, arith}
use Rattle.xdr_types.specs.Kinds as xdr
use Rattle.xdr_types.specs.Kinds.{KindView, Part, kind_at}
use Rattle.xdr_types.specs.Tree as value
use Rattle.xdr_types.specs.Tree.{Head, Tree}
use Rattle.xdr_types.specs.Fits.{Fits, fit, is_legal, parts, item_part}
use Rattle.xdr_types.specs.Spelling.{own}
use Rattle.xdr_types.specs.Layout.{Entry, entry, entries, layout, shown, of_number, of_group}
use Rattle.xdr_laws.proofs.Legal.{IsLegal, legal_is, both}
use Rattle.std.specs.Prelude.{Option, Some, None, IfSome}
use Rattle.xdr_parts.specs.Lent.{entry_of}
use Rattle.xdr_parts.specs.declared.part.Lent.{Lent}
use Rattle.xdr_cursor.specs.Coming.{Awaits, HandsOut, Skips, BeginsAbove, BeginsNamed}
use Rattle.xdr_cursor.specs.declared.cursor.Cursor.{Cursor}
use Rattle.xdr_cursor.proofs.Deep.{AreDeep, layout_deep}

legal_head : (s : List KindView) (t : ℕ) (v : Tree) → Fits s t v → IsLegal s (kind_at s t) v.0
legal_head s t v f =
    legal_is s (kind_at s t) v.0 (both (is_legal s (kind_at s t) v.0) (fit s (parts (kind_at s t) v.0) v.1) f).0

only_number : (s : List KindView) (h : Head) → IsLegal s xdr.int h → (z : ℤ) × (h ≡ value.int z)
only_number s (value.int z) l = (z, refl)
only_number s _ l = absurd l

only_fields : (s : List KindView) (ps : List Part) (h : Head) → IsLegal s (xdr.structure ps) h → h ≡ value.fields
only_fields s ps value.fields l = refl
only_fields s ps _ l = absurd l

-- the parts of a node that is a whole value, by its kind and its head
abbrev parts_by : List KindView → (t : ℕ) → KindView → Head → value.Values → List Entry
parts_by s t k h inner =
    shown 0 1 (item_part t) k h ++ (layout s (0 + length (own k h)) (1 + 1) (parts k h) inner ++ [])

pub number_parts : (s : List KindView) (t : ℕ) → kind_at s t ≡ xdr.int → (v : Tree) → Fits s t v
    → entries s t v ≡ entry 0 4 1 (item_part t) of_number ∷ []
number_parts s t is v f =
    let n = only_number s v.0 (subst (λ (k : KindView). IsLegal s k v.0) is (legal_head s t v f)) in
    ap (λ (h : Head). parts_by s t (kind_at s t) h v.1) n.1
    ∙ ap (λ (k : KindView). parts_by s t k (value.int n.0) v.1) is

-- a part, and what is deeper
pub record Inside (t : ℕ) (es : List Entry) : Type 0 where
  pub inner : List Entry
  pub joined : es ≡ entry 0 0 1 (item_part t) of_group ∷ (inner ++ [])
  pub deep : AreDeep 2 inner

pub structure_parts : (s : List KindView) (t : ℕ) (ps : List Part) → kind_at s t ≡ xdr.structure ps → (v : Tree)
    → Fits s t v → Inside t (entries s t v)
structure_parts s t ps is v f =
    let h = only_fields s ps v.0 (subst (λ (k : KindView). IsLegal s k v.0) is (legal_head s t v f)) in
    record {
      inner = layout s (0 + length (own (xdr.structure ps) value.fields)) (1 + 1) ps v.1;
      joined = ap (λ (g : Head). parts_by s t (kind_at s t) g v.1) h
          ∙ ap (λ (k : KindView). parts_by s t k value.fields v.1) is;
      deep = layout_deep s (0 + length (own (xdr.structure ps) value.fields)) 2 ps v.1;
    }

-- where all parts are deeper than 1, those behind the ones that are passed over are none
pub all_passed : (inner passed rest : List Entry) → AreDeep 2 inner → inner ++ [] ≡ passed ++ rest
    → BeginsAbove 1 rest → rest ≡ []
all_passed inner passed [] deep e above = refl
all_passed [] [] (x ∷ rest) deep e above = absurd cc
all_passed (y ∷ inner) [] (x ∷ rest) deep e above =
    let same : y ≡ x = cc in absurd (omega (arith, deep.0, above, ap (λ (z : Entry). z.depth) same))
all_passed [] (p ∷ passed) (x ∷ rest) deep e above = absurd cc
all_passed (y ∷ inner) (p ∷ passed) (x ∷ rest) deep e above =
    let same : inner ++ [] ≡ passed ++ (x ∷ rest) = cc in all_passed inner passed (x ∷ rest) deep.1 same above

-- ---- a cursor over them

-- the first of these parts is the one that is handed out, if any is
pub first_is : (c : Cursor) (kinds : List KindView) (input : List ℕ) (es rest : List Entry) (e : Entry)
    → es ≡ e ∷ rest → (found : Option Lent) → HandsOut c kinds input es found
    → IfSome found (λ (l : Lent). entry_of l ≡ e)
first_is c kinds input es rest e is None h = tt
first_is c kinds input es rest e is (Some l) h = let same : e ∷ rest ≡ entry_of l ∷ h.0 = sym is ∙ h.1 in cc

-- and the others come then
pub others_come : (c : Cursor) (kinds : List KindView) (input : List ℕ) (es rest : List Entry) (e : Entry)
    → es ≡ e ∷ rest → (found : Option Lent) → HandsOut c kinds input es found → Awaits c kinds input rest
others_come c kinds input es rest e is None h = let same : e ∷ rest ≡ [] = sym is ∙ h.0 in absurd cc
others_come c kinds input es rest e is (Some l) h =
    let same : h.0 ≡ rest = let both : e ∷ rest ≡ entry_of l ∷ h.0 = sym is ∙ h.1 in cc in
    subst (λ (x : List Entry). Awaits c kinds input x) same h.2

-- where none is to come none is handed out
pub none_comes : (c : Cursor) (kinds : List KindView) (input : List ℕ) (found : Option Lent)
    → HandsOut c kinds input [] found → found ≡ None
none_comes c kinds input None h = refl
none_comes c kinds input (Some l) h = let same : [] ≡ entry_of l ∷ h.0 = h.1 in absurd cc

-- some parts are still to come after each call
pub some_await : (c : Cursor) (kinds : List KindView) (input : List ℕ) (es : List Entry) (found : Option Lent)
    → HandsOut c kinds input es found → (rest : List Entry) × Awaits c kinds input rest
some_await c kinds input es None h = ([], h.1)
some_await c kinds input es (Some l) h = (h.0, h.2)

-- what is passed over inside a structure is all of it
pub nothing_left : (c : Cursor) (kinds : List KindView) (input : List ℕ) (inner : List Entry) → AreDeep 2 inner
    → Skips c kinds input 1 (inner ++ []) → Awaits c kinds input []
nothing_left c kinds input inner deep s =
    subst (λ (x : List Entry). Awaits c kinds input x)
    (all_passed inner s.0.passed s.0.rest deep s.0.joined s.1) s.0.awaits

-- the name of the first of these parts
pub name_of_first : (es rest : List Entry) (e : Entry) (name : List ℕ) → es ≡ e ∷ rest → BeginsNamed name es
    → e.name ≡ name
name_of_first es rest e name is h = subst (λ (x : List Entry). BeginsNamed name x) is h
