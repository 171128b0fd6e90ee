-- A text is cut at its last dot, in one way.
use Rattle.std.proofs.Common.{◌≡◌, ℕ, ◌+◌, ◌-◌, ◌<◌, ◌≤◌, suc, zero, Bool, true, false, List, [], ◌∷◌, ◌++◌}
use Rattle.std.proofs.Common.{length, take}
use Rattle.std.proofs.Common.{drop, get_or, refl, ap, sym, ◌∙◌, subst, nat_eq, arith, decimal, codes, append_assoc}
use Rattle.std.proofs.Common.{Option, None, Some, is_some, true≢false, ◌^◌}
use Rattle.std.specs.Option.{unwrap_or}
use Rattle.std.proofs.lemmas.Bool.Decides.{Decides-eqb}
use Rattle.std.proofs.lemmas.List.{drop_all, drop_more, take_rest}
use Rattle.xdr_units.specs.Texts.{HasNoDot}
use Rattle.xdr_units.proofs.Cutting.{cut_at, no_cut, no_dot_decimal}

abbrev first : List ℕ → ℕ
first [] = 0
first (x ∷ xs) = x

abbrev rest : List ℕ → List ℕ
rest [] = []
rest (x ∷ xs) = xs

-- What stands before the last dot, and what stands after it, are one.
pub same_last : (a b r s : List ℕ) → HasNoDot r → HasNoDot s → a ++ 46 ∷ r ≡ b ++ 46 ∷ s → (a ≡ b) × (r ≡ s)
same_last [] [] r s h k e = (refl, ap rest e)
same_last [] (y ∷ b) r s h k e = absurd (no_cut b s r h (ap rest e))
same_last (x ∷ a) [] r s h k e = absurd (no_cut a r s k (sym (ap rest e)))
same_last (x ∷ a) (y ∷ b) r s h k e =
    let w = same_last a b r s h k (ap rest e) in
    let front : x ≡ y = ap first e in
    ((λ j. front j ∷ w.0 j), w.1)

is_not : (x : ℕ) → (x ≡ 46 → ⊥) → nat_eq x 46 ≡ false
is_not x never = by (nat_eq x 46) refl
  where
    by : (b : Bool) → nat_eq x 46 ≡ b → b ≡ false
    by false e = refl
    by true e = absurd (never ((Decides-eqb x 46).0 e))

-- ---- the bytes from the last on

pub none_behind : (xs : List ℕ) (k : ℕ) → length xs ≤ k → HasNoDot (drop k xs)
none_behind xs k h = subst HasNoDot (sym (drop_all k xs h)) tt

-- one more byte that is no dot
pub none_more : (xs : List ℕ) (k : ℕ) → 0 < k → k ≤ length xs → (get_or xs (k - 1) 0 ≡ 46 → ⊥) → HasNoDot (drop k xs)
    → HasNoDot (drop (k - 1) xs)
none_more xs k some inside never h =
    let next : k - 1 + 1 ≡ k = omega (arith, some) in
    let cut : drop (k - 1) xs ≡ get_or xs (k - 1) 0 ∷ drop k xs =
    drop_more xs (k - 1) 0 (omega (arith, some, inside))
    ∙ ap (λ (j : ℕ). get_or xs (k - 1) 0 ∷ drop j xs) next in
    subst HasNoDot (sym cut) (is_not (get_or xs (k - 1) 0) never, h)

pub none_at_all : (xs : List ℕ) (k : ℕ) → k ≤ 0 → HasNoDot (drop k xs) → HasNoDot xs
none_at_all xs zero h none = none
none_at_all xs (suc k) h none = absurd (omega (arith, h))

-- a text with its last dot before this place
module _ (xs : List ℕ) (k : ℕ) (some : 0 < k) where
  pub last_behind : HasNoDot (drop k xs) → HasNoDot (take (length xs - (k - 1 + 1)) (drop (k - 1 + 1) xs))
  last_behind h =
      let next : k ≡ k - 1 + 1 = omega (arith, some) in
      subst HasNoDot (sym (take_rest xs (k - 1 + 1))) (subst (λ (j : ℕ). HasNoDot (drop j xs)) next h)

  pub last_cut : k ≤ length xs → get_or xs (k - 1) 0 ≡ 46
      → xs ≡ take (k - 1) xs ++ 46 ∷ take (length xs - (k - 1 + 1)) (drop (k - 1 + 1) xs)
  last_cut inside at =
      cut_at xs (k - 1) (omega (arith, some, inside)) at
      ∙ ap (λ (r : List ℕ). take (k - 1) xs ++ 46 ∷ r) (sym (take_rest xs (k - 1 + 1)))

-- ---- an octet behind the last dot

module _ (text front part : List ℕ) (last : HasNoDot part) (cut : text ≡ front ++ 46 ∷ part) where
  pub octet_found : (n : ℕ) → part ≡ decimal n → text ≡ front ++ codes "." ++ decimal n
  octet_found n is =
      cut ∙ ap (λ (p : List ℕ). front ++ 46 ∷ p) is ∙ sym (append_assoc front (46 ∷ []) (decimal n))

  pub octet_only : (f : List ℕ) (n : ℕ) → n < 256 → text ≡ f ++ codes "." ++ decimal n
      → (front ≡ f) × (part ≡ decimal n)
  octet_only f n small e =
      same_last front f part (decimal n) last (no_dot_decimal n (omega (arith, small)))
      (sym cut ∙ e ∙ append_assoc f (46 ∷ []) (decimal n))

none_some : (n : ℕ) → None ≡ Some n → ⊥
none_some n e = true≢false (sym (ap is_some e))

module _ (text front part : List ℕ) (last : HasNoDot part) (cut : text ≡ front ++ 46 ∷ part) where
  -- what stands behind the last dot is no number
  pub no_number : ((n : ℕ) → n < 2 ^ 32 → part ≡ decimal n → None ≡ Some n) → (f : List ℕ) (n : ℕ) → n < 256
      → text ≡ f ++ codes "." ++ decimal n → ⊥
  no_number never f n small e =
      let own = octet_only text front part last cut f n small e in
      none_some n (never n (omega (arith, small)) own.1)

  -- it is this number
  pub number_is : (m : ℕ) → ((n : ℕ) → n < 2 ^ 32 → part ≡ decimal n → Some m ≡ Some n) → (f : List ℕ) (n : ℕ)
      → n < 256 → text ≡ f ++ codes "." ++ decimal n → (front ≡ f) × (m ≡ n)
  number_is m one f n small e =
      let own = octet_only text front part last cut f n small e in
      (own.0, ap (λ (o : Option ℕ). unwrap_or o 0) (one n (omega (arith, small)) own.1))

  -- it is a number above 255
  pub too_large : (m : ℕ) → (m < 256 → ⊥) → ((n : ℕ) → n < 2 ^ 32 → part ≡ decimal n → Some m ≡ Some n)
      → (f : List ℕ) (n : ℕ) → n < 256 → text ≡ f ++ codes "." ++ decimal n → ⊥
  too_large m large one f n small e =
      let same : m ≡ n = (number_is m one f n small e).1 in large (omega (arith, same, small))

pub no_octet : (text f : List ℕ) (n : ℕ) → HasNoDot text → text ≡ f ++ codes "." ++ decimal n → ⊥
no_octet text f n none e = no_cut f (decimal n) text none (e ∙ append_assoc f (46 ∷ []) (decimal n))
