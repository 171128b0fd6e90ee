-- What a set of numbers says of the enumeration that it was made of.
use Rattle.std.proofs.Common.{◌≡◌, ℕ, ◌+◌, ◌<◌, ◌≤◌, ◌++◌, length, get_or, ltb, ltb-true, ltb-false, arith, rules, ℤ}
use Rattle.std.proofs.Common.{Bool, true, false, List, [], ◌∷◌, int_cmp, refl, sym, ap, ◌∙◌, subst, ◌⊎◌, inl, inr}
use Rattle.std.proofs.Common.{IsTrue, not, ◌↔◌, String, zero, suc, map, int_eq}
use Rattle.std.specs.declared.alloc.Global.{Global}
use Rattle.std.proofs.lemmas.Bool.Decides.{Decides-int_eq}
use Rattle.xdr_types.specs.KindViews.{constant_of}
use Rattle.std.specs.BTreeSet.{BTreeSet, contains, btree_set_len, IsSubset}
use Rattle.std.specs.BTreeMap.{is_at}
use Rattle.std.specs.List.{list_any}
use Rattle.std.proofs.lemmas.Bool.{false≢true}
use Rattle.std.proofs.lemmas.List.{length-append}
use Rattle.std.proofs.Math.ListN.{get_or-append}
use Rattle.std.proofs.Math.Seq.{get_or-append_seam}
use Rattle.std.proofs.lemmas.Bool.{or_right as or_later, or_left as or_first, or_cases as one_of, cases_Bool as tested}
use Rattle.std.proofs.lemmas.Bool.{not-true as not_true}
use Rattle.xdr_types.specs.Kinds as xdr
use Rattle.xdr_types.specs.Kinds.{KindView, Constant, Branch}
use Rattle.xdr_types.specs.Fits.{is_tag_of, is_numbered, is_constant}
use Rattle.xdr_types.specs.Private.Sets.{HasNumbers, HasNumberOutside}

-- the tags of an enumeration are those of the set of its numbers
pub numbered-tag : (f : KindView) (members : List Constant) (s : BTreeSet ℤ) (z : ℤ) (r : Bool)
    → f ≡ xdr.numbered members → HasNumbers f s
    → r ≡ contains int_cmp s z → r ≡ is_tag_of f z
numbered-tag f members s z r is has e =
    let numbers : (y : ℤ) → contains int_cmp s y ≡ is_numbered members y =
    subst (λ (g : KindView). HasNumbers g s) is has in
    subst (λ (g : KindView). r ≡ is_tag_of g z) (sym is) (e ∙ numbers z)

-- what a set has that is not empty
pub where_some : (P : Type 0) (s : BTreeSet ℤ) (r : Bool) → (IsTrue r ↔ (btree_set_len s ≡ 0)) → r ≡ false
    → (btree_set_len s ≡ 0) ⊎ P → P
where_some P s r empty filled of =
    elim of [
      | inl none ↦ absurd (false≢true (sym filled ∙ empty.1 none))
      | inr there ↦ there
    ]

-- the number is among the keys
abbrev has : List ℤ → ℤ → Bool
has ks z = list_any (is_at (int_cmp z)) ks

itself : (z : ℤ) → is_at (int_cmp z) z ≡ true
itself z = search rules

same : (z k : ℤ) → is_at (int_cmp z) k ≡ true → z ≡ k
same z k h = search rules

-- either a key is not in the set, or all are
scan : (t : BTreeSet ℤ) (ks : List ℤ) → ((z : ℤ) × (has ks z ≡ true) × (contains int_cmp t z ≡ false))
    ⊎ ((z : ℤ) → has ks z ≡ true → contains int_cmp t z ≡ true)
scan t [] = inr (λ z h. absurd (false≢true h))
scan t (k ∷ ks) =
    elim (tested (contains int_cmp t k)) [
      | inl there ↦ elim (scan t ks) [
        | inl found ↦ inl (found.0, or_later (is_at (int_cmp found.0) k) (has ks found.0) found.1, found.2)
        | inr all ↦ inr (λ z h. elim (one_of (is_at (int_cmp z) k) (has ks z) h) [
          | inl here ↦ subst (λ (y : ℤ). contains int_cmp t y ≡ true) (sym (same z k here)) there
          | inr later ↦ all z later
        ])
      ]
      | inr absent ↦ inl (k, or_first (is_at (int_cmp k) k) (has ks k) (itself k), absent)
    ]

of_not : (r : Bool) → (r ≡ true → ⊥) → not r ≡ true
of_not true h = absurd (h refl)
of_not false h = refl

-- a set is no subset where a number of it is outside
pub outside : (s t : BTreeSet ℤ) (r : Bool) → (IsTrue r ↔ IsSubset int_cmp s t) → IsTrue (not r) ↔ HasNumberOutside s t
outside s t r by = (
  λ h. elim (scan t s.keys) [
    | inl found ↦ found
    | inr all ↦ absurd (false≢true (sym (not_true r h) ∙ by.1 all))
  ],
  λ found. of_not r (λ h. absurd (false≢true (sym found.2 ∙ by.0 h found.0 found.1))),
)

before_or_last : (i n : ℕ) → i < n + 1 → (i < n) ⊎ (i ≡ n)
before_or_last i n h = by_test (ltb i n) refl
  where
    by_test : (r : Bool) → ltb i n ≡ r → (i < n) ⊎ (i ≡ n)
    by_test true e = inl (ltb-true i n e)
    by_test false e = let past : n ≤ i = ltb-false i n e in inr (omega arith)

-- one more element that has what the others have at their places
pub pushed : {A : Type 0} (P : ℕ → A → Type 0) (xs ys : List A) (y : A) → ys ≡ xs ++ y ∷ []
    → ((i : ℕ) (x : A) → i < length xs → x ≡ get_or xs i x → P i x)
    → P (length xs) y → (i : ℕ) (x : A) → i < length ys → x ≡ get_or ys i x → P i x
pushed {A} P xs ys y e each new i x lt is =
    elim (before_or_last i (length xs) (omega (arith, ap length e, length-append xs (y ∷ [])))) [
      | inl before ↦ each i x before (is ∙ ap (λ (zs : List A). get_or zs i x) e ∙ get_or-append xs (y ∷ []) x i before)
      | inr last ↦ subst (λ (j : ℕ). P j x) (sym last)
          (subst (λ (z : A). P (length xs) z)
          (sym (is ∙ ap (λ (zs : List A). get_or zs i x) e ∙ ap (λ (j : ℕ). get_or (xs ++ y ∷ []) j x) last
          ∙ get_or-append_seam xs y [] x)) new)
    ]

-- the number of a member is one of the enumeration's
pub number_at : (members : List (String Global × ℤ)) (i : ℕ) (m : String Global × ℤ) → i < length members
    → m ≡ get_or members i m → is_constant (map constant_of members) m.1 ≡ true
number_at [] i m lt is = absurd (omega arith)
number_at (n ∷ members) zero m lt is =
    or_first (int_eq n.1 m.1) (is_constant (map constant_of members) m.1)
    ((Decides-int_eq n.1 m.1).1 (ap (λ (x : String Global × ℤ). x.1) (sym is)))
number_at (n ∷ members) (suc i) m lt is =
    or_later (int_eq n.1 m.1) (is_constant (map constant_of members) m.1) (number_at members i m (omega arith) is)
