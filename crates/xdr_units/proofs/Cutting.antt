-- A text is cut at its first dot, in one way.
use Rattle.std.proofs.Common.{◌≡◌, ℕ, ◌+◌, ◌<◌, ◌≤◌, ◌^◌, suc, zero, Bool, true, false, List, [], ◌∷◌, ◌++◌, length}
use Rattle.std.proofs.Common.{take, drop, get_or, refl, ap, sym, ◌∙◌, subst, nat_eq, arith, decimal, true≢false}
use Rattle.std.specs.Str.Parse.{AllDigits}
use Rattle.std.proofs.lemmas.Bool.Decides.{Decides-eqb}
use Rattle.std.proofs.lemmas.Fmt.{decimal_is_IsNumeral}
use Rattle.std.proofs.lemmas.Str.Parse.{digit_from_value}
use Rattle.xdr_units.specs.Texts.{HasNoDot}

is_no_dot : (c : ℕ) → 48 ≤ c → nat_eq c 46 ≡ false
is_no_dot c h = by (nat_eq c 46) refl
  where
    by : (b : Bool) → nat_eq c 46 ≡ b → b ≡ false
    by false e = refl
    by true e = let z : c ≡ 46 = (Decides-eqb c 46).0 e in absurd (omega arith)

no_dot : (ds : List ℕ) → AllDigits 10 ds → HasNoDot ds
no_dot [] d = tt
no_dot (c ∷ cs) d = let k = digit_from_value c d.0 in (is_no_dot c (omega (arith, k)), no_dot cs d.1)

-- A decimal number has no dot.
pub no_dot_decimal : (n : ℕ) → n < 2 ^ 64 → HasNoDot (decimal n)
no_dot_decimal n h = no_dot (decimal n) (decimal_is_IsNumeral n h).0.1

dotless : (a r : List ℕ) → HasNoDot (a ++ 46 ∷ r) → ⊥
dotless [] r h = true≢false h.0
dotless (x ∷ a) r h = dotless a r h.1

-- A text without a dot is not cut.
pub no_cut : (a r text : List ℕ) → HasNoDot text → text ≡ a ++ 46 ∷ r → ⊥
no_cut a r text h e = dotless a r (subst HasNoDot e h)

abbrev first : List ℕ → ℕ
first [] = 0
first (x ∷ xs) = x

abbrev rest : List ℕ → List ℕ
rest [] = []
rest (x ∷ xs) = xs

-- What stands before the first dot, and what stands after it, are one.
pub same_cut : (a b r s : List ℕ) → HasNoDot a → HasNoDot b → a ++ 46 ∷ r ≡ b ++ 46 ∷ s → (a ≡ b) × (r ≡ s)
same_cut [] [] r s h k e = (refl, ap rest e)
same_cut [] (y ∷ b) r s h k e = absurd (true≢false (ap (λ z. nat_eq z 46) (ap first e) ∙ k.0))
same_cut (x ∷ a) [] r s h k e = absurd (true≢false (sym (ap (λ z. nat_eq z 46) (ap first e)) ∙ h.0))
same_cut (x ∷ a) (y ∷ b) r s h k e =
    let w = same_cut a b r s h.1 k.1 (ap rest e) in
    let front : x ≡ y = ap first e in
    ((λ j. front j ∷ w.0 j), w.1)

-- One more byte that is no dot.
pub no_dot_more : (xs : List ℕ) (i b : ℕ) → i < length xs → get_or xs i b ≡ b → nat_eq b 46 ≡ false
    → HasNoDot (take i xs) → HasNoDot (take (i + 1) xs)
no_dot_more [] i b lt at nd h = absurd (omega (arith, lt))
no_dot_more (x ∷ xs) zero b lt at nd h = (ap (λ y. nat_eq y 46) at ∙ nd, tt)
no_dot_more (x ∷ xs) (suc i) b lt at nd h =
    let e : suc (i + 1) ≡ suc i + 1 = omega arith in
    subst (λ (k : ℕ). HasNoDot (take k (x ∷ xs))) e (h.0, no_dot_more xs i b (omega (arith, lt)) at nd h.1)

pub no_dot_all : (xs : List ℕ) → HasNoDot (take (length xs) xs) → HasNoDot xs
no_dot_all [] h = h
no_dot_all (x ∷ xs) h = (h.0, no_dot_all xs h.1)

-- A text with a dot at this place.
pub cut_at : (xs : List ℕ) (i : ℕ) → i < length xs → get_or xs i 0 ≡ 46 → xs ≡ take i xs ++ 46 ∷ drop (i + 1) xs
cut_at [] i lt at = absurd (omega (arith, lt))
cut_at (x ∷ xs) zero lt at = λ j. at j ∷ xs
cut_at (x ∷ xs) (suc i) lt at =
    let e : suc (i + 1) ≡ suc i + 1 = omega arith in
    ap (λ r. x ∷ r) (cut_at xs i (omega (arith, lt)) at) ∙ ap (λ (k : ℕ). (x ∷ take i xs) ++ 46 ∷ drop k (x ∷ xs)) e
