-- Entries of numbers and indices, and the first one that has a number.
use Rattle.std.proofs.Common.{◌≡◌, ◌<◌, ◌≤◌, ◌+◌, ◌++◌, ◌≤ℤ◌, ◌<ℤ◌, ℕ, zero, suc, ℤ, pos, Bool, true, false}
use Rattle.std.proofs.Common.{List, [], ◌∷◌, length, filter, get_or, Option, Some, None, cond, if◌then◌else◌}
use Rattle.std.proofs.Common.{int_eq, int_cmp}
use Rattle.std.proofs.Common.{inl, inr, refl, sym, ap, ◌∙◌, arith, rules}
use Rattle.std.specs.Option.{option_or}
use Rattle.std.proofs.Common.{Result, Ok, Err}
use Rattle.std.specs.Result.{OnOk}
use Rattle.std.specs.Ordering.{is_lt}
use Rattle.std.specs.List.Sorted.{IsSortedByKey, IsStableByKey, ties}
use Rattle.std.proofs.lemmas.Bool.{cases_Bool as tested}
use Rattle.std.proofs.lemmas.Bool.Decides.{Decides-int_eq}
use Rattle.std.proofs.lemmas.Cmp.{int_cmp_total}
use Rattle.std.proofs.lemmas.Int.{ints}
use Rattle.std.proofs.lemmas.List.{get_or_default}
use Rattle.std.proofs.lemmas.List.Sorted.{sorted_far, ranks_by}
use Rattle.std.specs.Int.Signed.{lt_z, ≤ℤ_refl}
use Rattle.std.specs.List.{dedup, dedup_from}
use Rattle.std.specs.Prelude.{⊤}
use Rattle.xdr_types.specs.Private.Lookups.{number_at, AreInOrder, first_at}

pub first_of_none : (z : ℤ) → first_at [] z ≡ None
unfolding first_at
first_of_none z = refl

pub first_of : (e : ℤ × ℕ) (es : List (ℤ × ℕ)) (z : ℤ)
    → first_at (e ∷ es) z ≡ cond (int_eq e.0 z) (Some e.1) (first_at es z)
unfolding first_at
first_of e es z = refl

-- one more entry at the end
pub first_of_more : (es : List (ℤ × ℕ)) (n : ℤ) (i : ℕ) (z : ℤ)
    → first_at (es ++ (n, i) ∷ []) z ≡ option_or (first_at es z) (if int_eq n z then Some i else None)
unfolding first_at
first_of_more [] n i z = refl
first_of_more (e ∷ es) n i z =
    elim (tested (int_eq e.0 z)) [
      | inl h ↦ rw h refl
      | inr h ↦ rw h (first_of_more es n i z)
    ]

same : (n z : ℤ) → int_eq n z ≡ true → n ≡ z
same n z h = (Decides-int_eq n z).0 h

differ : (n z : ℤ) → n <ℤ z → int_eq n z ≡ false
differ n z lt =
    elim (tested (int_eq n z)) [
      | inl h ↦ let one : n ≡ z = same n z h in absurd (omega (arith, ints))
      | inr h ↦ h
    ]

past : (n z : ℤ) → z <ℤ n → int_eq n z ≡ false
past n z lt =
    elim (tested (int_eq n z)) [
      | inl h ↦ let one : n ≡ z = same n z h in absurd (omega (arith, ints))
      | inr h ↦ h
    ]

-- the first entry with a number is the one behind all lower numbers
pub first_here : (es : List (ℤ × ℕ)) (k : ℕ) (z : ℤ) → k < length es
    → ((i : ℕ) → i < k → number_at es i <ℤ z) → number_at es k ≡ z
    → first_at es z ≡ Some (get_or es k (pos 0, 0)).1
unfolding first_at
first_here [] k z lt below is = absurd (omega arith)
first_here (e ∷ es) zero z lt below is = rw ((Decides-int_eq e.0 z).1 is) refl
first_here (e ∷ es) (suc k) z lt below is =
    rw (differ e.0 z (below 0 (omega arith)))
    (first_here es k z (omega arith) (λ i h. below (suc i) (omega arith)) is)

-- and there is none, where no entry has it
pub first_nowhere : (es : List (ℤ × ℕ)) (k : ℕ) (z : ℤ) → ((i : ℕ) → i < k → number_at es i <ℤ z)
    → ((i : ℕ) → k ≤ i → i < length es → z <ℤ number_at es i) → first_at es z ≡ None
unfolding first_at
first_nowhere [] k z below above = refl
first_nowhere (e ∷ es) zero z below above =
    rw (past e.0 z (above 0 (omega arith) (omega arith)))
    (first_nowhere es zero z (λ i h. absurd (omega arith)) (λ i h lt. above (suc i) (omega arith) (omega arith)))
first_nowhere (e ∷ es) (suc k) z below above =
    rw (differ e.0 z (below 0 (omega arith)))
    (first_nowhere es k z (λ i h. below (suc i) (omega arith)) (λ i h lt. above (suc i) (omega arith) (omega arith)))

-- ---- putting in order

abbrev number : ℤ × ℕ → ℤ
number e = e.0

not_above : (a b : ℤ) → is_lt (int_cmp b a) ≡ false → a ≤ℤ b
not_above a b h = search (rules, ints)

pub in_order : (es : List (ℤ × ℕ)) → IsSortedByKey number int_cmp es → AreInOrder es
in_order es up i j le lt =
    not_above (number_at es i) (number_at es j)
    (sorted_far (λ x y. is_lt (int_cmp (number x) (number y))) (ranks_by int_cmp_total number) es up i j (pos 0, 0) le
    lt)

-- the index of the first of some entries
head : List (ℤ × ℕ) → Option ℕ
head [] = None
head (e ∷ es) = Some e.1

tie : (e : ℤ × ℕ) (z : ℤ)
    → ties (λ x y. is_lt (int_cmp (number x) (number y))) (z, 0) e ≡ int_eq e.0 z
tie e z = search (rules, ints)

as_head : (es : List (ℤ × ℕ)) (z : ℤ)
    → first_at es z ≡ head (filter (ties (λ x y. is_lt (int_cmp (number x) (number y))) (z, 0)) es)
unfolding first_at head
as_head [] z = refl
as_head (e ∷ es) z =
    elim (tested (int_eq e.0 z)) [
      | inl h ↦ rw (tie e z, h) refl
      | inr h ↦ rw (tie e z, h) (as_head es z)
    ]

pub stays_first : (es fs : List (ℤ × ℕ)) → IsStableByKey number int_cmp es fs → (z : ℤ)
    → first_at fs z ≡ first_at es z
stays_first es fs stable z = as_head fs z ∙ ap head (stable (z, 0)) ∙ sym (as_head es z)

pub where_ok : {A E : Type 0} (r : Result A E) (P Q : Type 0) → OnOk r P → (P → Q) → OnOk r Q
where_ok (Ok x) P Q h f = f h
where_ok (Err e) P Q h f = h

pub or_none : (a : Option ℕ) → option_or a None ≡ a
or_none (Some i) = refl
or_none None = refl

-- what comes after an entry that is no other's
pub or_after : (a : Option ℕ) (b : Bool) (i : ℕ) (r : Option ℕ)
    → option_or (option_or a (cond b (Some i) None)) r ≡ option_or a (cond b (Some i) r)
or_after (Some j) b i r = refl
or_after None true i r = refl
or_after None false i r = refl

-- ---- halving

less : (a b : ℤ) → lt_z a b ≡ true → a <ℤ b
less a b h = grind (arith, ints)

no_less : (a b : ℤ) → lt_z a b ≡ false → b ≤ℤ a
no_less a b h = grind (arith, ints)

pub entry_number : (es : List (ℤ × ℕ)) (k : ℕ) (e : ℤ × ℕ) → k < length es → e ≡ get_or es k e
    → e.0 ≡ number_at es k
entry_number es k e lt is = ap number (is ∙ get_or_default es k e (pos 0, 0) lt)

pub entry_index : (es : List (ℤ × ℕ)) (k : ℕ) (e : ℤ × ℕ) → k < length es → e ≡ get_or es k e
    → e.1 ≡ (get_or es k (pos 0, 0)).1
entry_index es k e lt is = ap (λ (x : ℤ × ℕ). x.1) (is ∙ get_or_default es k e (pos 0, 0) lt)

pub more_below : (es : List (ℤ × ℕ)) (k : ℕ) (e : ℤ × ℕ) (n z : ℤ) → AreInOrder es → k < length es
    → e ≡ get_or es k e → n ≡ e.0 → lt_z n z ≡ true → (i : ℕ) → i < k + 1 → number_at es i <ℤ z
more_below es k e n z order lt is same below i h =
    let here : e.0 ≡ number_at es k = entry_number es k e lt is in
    let up : number_at es i ≤ℤ number_at es k = order i k (omega arith) lt in
    let low : n <ℤ z = less n z below in
    omega (arith, ints)

pub more_above : (es : List (ℤ × ℕ)) (k : ℕ) (e : ℤ × ℕ) (n z : ℤ) → AreInOrder es → k < length es
    → e ≡ get_or es k e → n ≡ e.0 → lt_z n z ≡ false → (i : ℕ) → k ≤ i → i < length es → z ≤ℤ number_at es i
more_above es k e n z order lt is same above i h within =
    let here : e.0 ≡ number_at es k = entry_number es k e lt is in
    let up : number_at es k ≤ℤ number_at es i = order k i h within in
    let high : z ≤ℤ n = no_less n z above in
    omega (arith, ints)

strict : (a b : ℤ) → a ≤ℤ b → (b ≡ a → ⊥) → a <ℤ b
strict a b le ne =
    elim (tested (lt_z a b)) [
      | inl h ↦ less a b h
      | inr h ↦ let ge : b ≤ℤ a = no_less a b h in absurd (ne (omega (arith, ints)))
    ]

-- a number that the entry behind the lower ones has not is no entry's
pub nowhere : (es : List (ℤ × ℕ)) (k : ℕ) (z : ℤ) → AreInOrder es → k < length es
    → ((i : ℕ) → i < k → number_at es i <ℤ z) → z ≤ℤ number_at es k → (number_at es k ≡ z → ⊥)
    → first_at es z ≡ None
nowhere es k z order lt below le ne =
    first_nowhere es k z below (λ i h within.
    let over : z <ℤ number_at es k = strict z (number_at es k) le ne in
    let up : number_at es k ≤ℤ number_at es i = order k i h within in
    omega (arith, ints))

-- ---- one entry of each number

abbrev pub alike : ℤ × ℕ → ℤ × ℕ → Bool
alike x y = int_eq x.0 y.0

first_of_kept : (k : ℤ × ℕ) (xs : List (ℤ × ℕ)) (z : ℤ) → first_at (dedup_from alike k xs) z ≡ first_at (k ∷ xs) z
unfolding first_at
first_of_kept k [] z = refl
first_of_kept k (x ∷ xs) z =
    elim (tested (int_eq x.0 k.0)) [
      | inl h ↦
          let one : x.0 ≡ k.0 = same x.0 k.0 h in
          rw h (first_of_kept k xs z ∙ elim (tested (int_eq k.0 z)) [
            | inl g ↦ rw g refl
            | inr g ↦ let other : int_eq x.0 z ≡ false = ap (λ (n : ℤ). int_eq n z) one ∙ g in rw (g, other) refl
          ])
      | inr h ↦ rw h (ap (λ (o : Option ℕ). cond (int_eq k.0 z) (Some k.1) o) (first_of_kept x xs z))
    ]

pub first_of_firsts : (es : List (ℤ × ℕ)) (z : ℤ) → first_at (dedup alike es) z ≡ first_at es z
first_of_firsts [] z = refl
first_of_firsts (e ∷ es) z = first_of_kept e es z

-- no entry has a lower number
abbrev IsUnder : ℤ → List (ℤ × ℕ) → Type 0
IsUnder n [] = ⊤
IsUnder n (x ∷ xs) = (n ≤ℤ x.0) × IsUnder n xs

-- no entry has a lower number than one before it
abbrev Rise : List (ℤ × ℕ) → Type 0
Rise [] = ⊤
Rise (e ∷ es) = IsUnder e.0 es × Rise es

under : (n : ℤ) (es : List (ℤ × ℕ)) → ((i : ℕ) → i < length es → n ≤ℤ number_at es i) → IsUnder n es
under n [] h = tt
under n (x ∷ xs) h = (h 0 (omega arith), under n xs (λ i lt. h (suc i) (omega arith)))

rise : (es : List (ℤ × ℕ)) → AreInOrder es → Rise es
rise [] order = tt
rise (e ∷ es) order = (
  under e.0 es (λ i lt. order 0 (suc i) (omega arith) (omega arith)),
  rise es (λ i j le lt. order (suc i) (suc j) (omega arith) (omega arith)),
)

under_at : (n : ℤ) (es : List (ℤ × ℕ)) (i : ℕ) → IsUnder n es → i < length es → n ≤ℤ number_at es i
under_at n [] i h lt = absurd (omega arith)
under_at n (x ∷ xs) zero h lt = h.0
under_at n (x ∷ xs) (suc i) h lt = under_at n xs i h.1 (omega arith)

ordered : (es : List (ℤ × ℕ)) → Rise es → AreInOrder es
ordered [] h i j le lt = absurd (omega arith)
ordered (e ∷ es) h zero zero le lt = ≤ℤ_refl e.0
ordered (e ∷ es) h zero (suc j) le lt = under_at e.0 es j h.0 (omega arith)
ordered (e ∷ es) h (suc i) zero le lt = absurd (omega arith)
ordered (e ∷ es) h (suc i) (suc j) le lt = ordered es h.1 i j (omega arith) (omega arith)

under_kept : (n : ℤ) (k : ℤ × ℕ) (xs : List (ℤ × ℕ)) → IsUnder n (k ∷ xs) → IsUnder n (dedup_from alike k xs)
under_kept n k [] h = h
under_kept n k (x ∷ xs) h =
    elim (tested (int_eq x.0 k.0)) [
      | inl g ↦ rw g (under_kept n k xs (h.0, h.1.1))
      | inr g ↦ rw g (h.0, under_kept n x xs h.1)
    ]

rise_kept : (k : ℤ × ℕ) (xs : List (ℤ × ℕ)) → Rise (k ∷ xs) → Rise (dedup_from alike k xs)
rise_kept k [] h = h
rise_kept k (x ∷ xs) h =
    elim (tested (int_eq x.0 k.0)) [
      | inl g ↦ rw g (rise_kept k xs (h.0.1, h.1.1))
      | inr g ↦ rw g (under_kept k.0 x xs h.0, rise_kept x xs h.1)
    ]

pub firsts_in_order : (es : List (ℤ × ℕ)) → AreInOrder es → AreInOrder (dedup alike es)
firsts_in_order [] order = order
firsts_in_order (e ∷ es) order = ordered (dedup_from alike e es) (rise_kept e es (rise (e ∷ es) order))
