-- The counts of the file of RFC 4506 section 7.
use Rattle.std.proofs.Common.{◌≡◌, ℕ, zero, suc, ◌+◌, ◌^◌, ◌≤◌, ◌||◌, ℤ, pos, List, [], ◌∷◌, length, ◌⊎◌, inl, inr}
use Rattle.std.proofs.Common.{true, false, is_some, int_eq, None, refl, sym, ap, ◌∙◌, subst, arith}
use Rattle.std.proofs.lemmas.Bool.{false≢true, or_cases, and_parts as both}
use Rattle.std.proofs.lemmas.Bool.Decides.{Decides-int_eq}
use Rattle.xdr_types.specs.Kinds as xdr
use Rattle.xdr_types.specs.Kinds.{Part}
use Rattle.xdr_types.specs.Tree as value
use Rattle.xdr_types.specs.Tree.{Head}
use Rattle.xdr_types.specs.Fits.{is_legal, is_signed, is_constant, is_tag_of, parts, part_of}
use Rattle.xdr_types.specs.Spelling.{own}
use Rattle.xdr_bounds.specs.Bounds.{IsReached, HasAtLeast, HasAtMost, IsLeast, IsGreatest}
use Rattle.xdr_bounds.specs.Private.Amounts.{IsIn, total}
use Rattle.xdr_bounds.specs.Private.Shapes.{kinds_of, IsForm}
use Rattle.xdr_bounds.proofs.Formed.{nothing_shape, text_shape, opaque_up_to_shape}
use Rattle.example_values.specs.Rfc.{file_members, file_arms, file_fields, file_kinds}
use Rattle.example_values.proofs.Counts.{least_by, greatest_by, least_alone, greatest_alone, least_structure}
use Rattle.example_values.proofs.Counts.{greatest_structure}

-- the least and the greatest counts of the kinds at places 1 to 5
abbrev least : ℕ → ℕ
least (suc zero) = 0
least _ = 4

abbrev greatest : ℕ → ℕ
greatest zero = 4
greatest (suc zero) = 0
greatest (suc (suc zero)) = 260
greatest (suc (suc (suc zero))) = 36
greatest (suc (suc (suc (suc zero)))) = 264
greatest _ = 65540

-- ---- void, names, owners, data

nothing_least : IsLeast file_kinds 1 0
nothing_least = least_alone file_kinds 1 0 0 (nothing_shape file_kinds (value.nothing, refl))

nothing_most : IsGreatest file_kinds 1 0
nothing_most = greatest_alone file_kinds 1 0 0 (nothing_shape file_kinds (value.nothing, refl))

name_least : IsLeast file_kinds 2 4
name_least = least_alone file_kinds 2 4 260 (text_shape file_kinds 255 (omega arith))

name_most : IsGreatest file_kinds 2 260
name_most = greatest_alone file_kinds 2 4 260 (text_shape file_kinds 255 (omega arith))

owner_least : IsLeast file_kinds 3 4
owner_least = least_alone file_kinds 3 4 36 (text_shape file_kinds 32 (omega arith))

owner_most : IsGreatest file_kinds 3 36
owner_most = greatest_alone file_kinds 3 4 36 (text_shape file_kinds 32 (omega arith))

data_least : IsLeast file_kinds 5 4
data_least = least_alone file_kinds 5 4 65540 (opaque_up_to_shape file_kinds 65535 (omega arith))

data_most : IsGreatest file_kinds 5 65540
data_most = greatest_alone file_kinds 5 4 65540 (opaque_up_to_shape file_kinds 65535 (omega arith))

-- ---- the union

same_number : (a z : ℤ) → int_eq a z ≡ true → z ≡ a
same_number a z e = sym ((Decides-int_eq a z).0 e)

three : (z : ℤ) → is_constant file_members z ≡ true → (z ≡ pos 0) ⊎ ((z ≡ pos 1) ⊎ (z ≡ pos 2))
three z e =
    elim (or_cases (int_eq (pos 0) z) (int_eq (pos 1) z || (int_eq (pos 2) z || false)) e) [
      | inl first ↦ inl (same_number (pos 0) z first)
      | inr more ↦ elim (or_cases (int_eq (pos 1) z) (int_eq (pos 2) z || false) more) [
        | inl second ↦ inr (inl (same_number (pos 1) z second))
        | inr last ↦ elim (or_cases (int_eq (pos 2) z) false last) [
          | inl third ↦ inr (inr (same_number (pos 2) z third))
          | inr none ↦ absurd (false≢true none)
        ]
      ]
    ]

-- what a discriminant brings: void or a name
record Brings (n : ℕ) (qs : List ℕ) : Type 0 where
  four : n ≡ 4
  part : (qs ≡ 1 ∷ []) ⊎ (qs ≡ 2 ∷ [])

under : (z : ℤ) → (z ≡ pos 0) ⊎ ((z ≡ pos 1) ⊎ (z ≡ pos 2))
    → (kinds_of (parts (xdr.choice 0 file_arms None) (value.tag z)) ≡ 1 ∷ [])
    ⊎ (kinds_of (parts (xdr.choice 0 file_arms None) (value.tag z)) ≡ 2 ∷ [])
under z (inl is) = inl (ap (λ (x : ℤ). kinds_of (parts (xdr.choice 0 file_arms None) (value.tag x))) is)
under z (inr (inl is)) = inr (ap (λ (x : ℤ). kinds_of (parts (xdr.choice 0 file_arms None) (value.tag x))) is)
under z (inr (inr is)) = inr (ap (λ (x : ℤ). kinds_of (parts (xdr.choice 0 file_arms None) (value.tag x))) is)

brings : (n : ℕ) (qs : List ℕ) (h : Head) → is_legal file_kinds (xdr.choice 0 file_arms None) h ≡ true
    → length (own (xdr.choice 0 file_arms None) h) ≡ n → kinds_of (parts (xdr.choice 0 file_arms None) h) ≡ qs
    → Brings n qs
brings n qs (value.tag z) l is of =
    let legal = both (is_tag_of (xdr.numbered file_members) z) (is_some (part_of file_arms None z)) l in
    let listed = both (is_signed (2 ^ 31) z) (is_constant file_members z) legal.0 in record {
      four = sym is;
      part = elim (under z (three z listed.1)) [
        | inl void ↦ inl (sym of ∙ void)
        | inr name ↦ inr (sym of ∙ name)
      ];
    }
brings n qs _ l is of = absurd (false≢true l)

of_one : (C : ℕ → Type 0) (q p : ℕ) → C p → IsIn q (p ∷ []) → C q
of_one C q p c (inl is) = subst C (sym is) c
of_one C q p c (inr none) = absurd none

pub type_least : IsLeast file_kinds 4 4
type_least =
    least_by file_kinds 4 4 (1 ∷ []) least (value.tag (pos 0), refl, refl, refl)
    (λ q i. of_one (λ (r : ℕ). IsReached file_kinds r (least r)) q 1 nothing_least.one i)
    (λ m rs form. let b = brings m rs form.0 form.1 form.2 form.3 in
    let four : m ≡ 4 = b.four in
    let here : 4 + total least (1 ∷ []) ≡ 4 = refl in (λ q i. each rs q b.part i, omega arith))
  where
    each : (rs : List ℕ) (q : ℕ) → (rs ≡ 1 ∷ []) ⊎ (rs ≡ 2 ∷ []) → IsIn q rs → HasAtLeast file_kinds q (least q)
    each rs q (inl is) i =
        of_one (λ (r : ℕ). HasAtLeast file_kinds r (least r)) q 1 nothing_least.every
        (subst (λ (xs : List ℕ). IsIn q xs) is i)
    each rs q (inr is) i =
        of_one (λ (r : ℕ). HasAtLeast file_kinds r (least r)) q 2 name_least.every
        (subst (λ (xs : List ℕ). IsIn q xs) is i)

pub type_most : IsGreatest file_kinds 4 264
type_most =
    greatest_by file_kinds 4 4 (2 ∷ []) greatest (value.tag (pos 1), refl, refl, refl)
    (λ q i. of_one (λ (r : ℕ). IsReached file_kinds r (greatest r)) q 2 name_most.one i)
    (λ m rs form. let b = brings m rs form.0 form.1 form.2 form.3 in
    let four : m ≡ 4 = b.four in
    let few : total greatest rs ≤ 260 = above rs b.part in
    let here : 4 + total greatest (2 ∷ []) ≡ 264 = refl in (λ q i. each rs q b.part i, omega arith))
  where
    each : (rs : List ℕ) (q : ℕ) → (rs ≡ 1 ∷ []) ⊎ (rs ≡ 2 ∷ []) → IsIn q rs → HasAtMost file_kinds q (greatest q)
    each rs q (inl is) i =
        of_one (λ (r : ℕ). HasAtMost file_kinds r (greatest r)) q 1 nothing_most.every
        (subst (λ (xs : List ℕ). IsIn q xs) is i)
    each rs q (inr is) i =
        of_one (λ (r : ℕ). HasAtMost file_kinds r (greatest r)) q 2 name_most.every
        (subst (λ (xs : List ℕ). IsIn q xs) is i)

    above : (rs : List ℕ) → (rs ≡ 1 ∷ []) ⊎ (rs ≡ 2 ∷ []) → total greatest rs ≤ 260
    above rs (inl is) = let all : total greatest rs ≡ 0 = ap (total greatest) is in omega arith
    above rs (inr is) = let all : total greatest rs ≡ 260 = ap (total greatest) is in omega arith

-- ---- the file

four_parts : (C : ℕ → Type 0) → C 2 → C 4 → C 3 → C 5 → (q : ℕ) → IsIn q (kinds_of file_fields) → C q
four_parts C a b c d q (inl is) = subst C (sym is) a
four_parts C a b c d q (inr (inl is)) = subst C (sym is) b
four_parts C a b c d q (inr (inr (inl is))) = subst C (sym is) c
four_parts C a b c d q (inr (inr (inr (inl is)))) = subst C (sym is) d
four_parts C a b c d q (inr (inr (inr (inr none)))) = absurd none

pub file_least : IsLeast file_kinds 6 16
file_least =
    least_structure file_kinds 6 file_fields least refl
    (four_parts (λ (q : ℕ). IsLeast file_kinds q (least q)) name_least type_least owner_least data_least)

pub file_most : IsGreatest file_kinds 6 66100
file_most =
    greatest_structure file_kinds 6 file_fields greatest refl
    (four_parts (λ (q : ℕ). IsGreatest file_kinds q (greatest q)) name_most type_most owner_most data_most)
