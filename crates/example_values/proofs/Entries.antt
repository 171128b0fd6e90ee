-- The counts of an entry of a list.
use Rattle.std.proofs.Common.{◌≡◌, ℕ, zero, suc, ◌+◌, ◌<◌, ◌≤◌, List, [], ◌∷◌, length, inl, inr, true, refl, sym, subst}
use Rattle.std.proofs.Common.{arith}
use Rattle.std.proofs.lemmas.Bool.{false≢true}
use Rattle.xdr_types.specs.Kinds as xdr
use Rattle.xdr_types.specs.Tree as value
use Rattle.xdr_types.specs.Tree.{Head, Tree}
use Rattle.xdr_types.specs.Fits.{Fits, is_legal, parts}
use Rattle.xdr_types.specs.Spelling.{own, bytes_of}
use Rattle.xdr_bounds.specs.Bounds.{IsReached, IsLeast, IsUnbounded}
use Rattle.xdr_bounds.specs.Private.Amounts.{IsIn}
use Rattle.xdr_bounds.specs.Private.Shapes.{kinds_of}
use Rattle.xdr_bounds.proofs.Forms.{HasMore, node_more}
use Rattle.xdr_bounds.proofs.Formed.{text_shape}
use Rattle.example_values.specs.Rfc.{entry_fields, list_kinds}
use Rattle.example_values.proofs.Counts.{least_by, least_alone, least_structure}

-- each kind of the list has four bytes at least but for the entry
abbrev four : ℕ → ℕ
four q = 4

item_least : IsLeast list_kinds 0 4
item_least = least_alone list_kinds 0 4 4294967300 (text_shape list_kinds 4294967295 (omega arith))

flag_only : (n : ℕ) (h : Head) → is_legal list_kinds (xdr.maybe 2) h ≡ true → length (own (xdr.maybe 2) h) ≡ n → n ≡ 4
flag_only n value.present l is = sym is
flag_only n value.absent l is = sym is
flag_only n _ l is = absurd (false≢true l)

next_least : IsLeast list_kinds 1 4
next_least =
    least_by list_kinds 1 4 [] (λ q. 0) (value.absent, refl, refl, refl) (λ q i. absurd i)
    (λ m rs form. let flag : m ≡ 4 = flag_only m form.0 form.1 form.2 in (λ q i t e. omega arith, omega arith))

two_parts : (C : ℕ → Type 0) → C 0 → C 1 → (q : ℕ) → IsIn q (kinds_of entry_fields) → C q
two_parts C a b q (inl is) = subst C (sym is) a
two_parts C a b q (inr (inl is)) = subst C (sym is) b
two_parts C a b q (inr (inr none)) = absurd none

pub entry_least : IsLeast list_kinds 2 8
entry_least =
    least_structure list_kinds 2 entry_fields four refl
    (two_parts (λ (q : ℕ). IsLeast list_kinds q (four q)) item_least next_least)

-- an entry with an empty item, and none behind it
last : (t : Tree) × Fits list_kinds 2 t
last = (
  (value.fields, value.node (value.bytes []) value.none (value.node value.absent value.none value.none)),
  refl,
)

-- one entry more
more : (n : ℕ) → HasMore list_kinds 2 n
more zero = (last.0, last.1, omega arith)
more (suc n) =
    let next : HasMore list_kinds 1 (4 + n) =
    node_more list_kinds 1 4 value.present 2 n refl refl (inl refl)
    (λ p i. of_one p i) (more n) in
    let entry : HasMore list_kinds 2 (0 + (4 + n)) =
    node_more list_kinds 2 0 value.fields 1 (4 + n) refl refl (inr (inl refl))
    (two_parts (λ (p : ℕ). (t : Tree) × Fits list_kinds p t) ((value.bytes [], value.none), refl)
    ((value.absent, value.none), refl)) next in
    let all : 0 + (4 + n) ≤ length (bytes_of list_kinds 2 entry.0) = entry.2 in (entry.0, entry.1, omega arith)
  where
    of_one : (p : ℕ) → IsIn p (2 ∷ []) → (t : Tree) × Fits list_kinds p t
    of_one p (inl is) = subst (λ (q : ℕ). (t : Tree) × Fits list_kinds q t) (sym is) last
    of_one p (inr none) = absurd none

pub entry_unbounded : IsUnbounded list_kinds 2
entry_unbounded n =
    let some = more (suc n) in
    let all : suc n ≤ length (bytes_of list_kinds 2 some.0) = some.2 in (some.0, some.1, omega arith)
