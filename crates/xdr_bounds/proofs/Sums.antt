-- Sums, the lowest and the highest over places.
use Rattle.std.proofs.Common.{◌≡◌, ℕ, zero, suc, ◌+◌, ◌*◌, ◌^◌, ◌<◌, ◌≤◌, max, min, List, [], ◌∷◌, ◌++◌, ◌⊎◌, inl, inr}
use Rattle.std.proofs.Common.{replicate, length, Bool, true, false, ltb, ltb-true, ltb-false, refl, sym, ap, ◌∙◌, arith}
use Rattle.std.proofs.Math.Nat.{mul-suc, mul-zero}
use Rattle.xdr_bounds.specs.Private.Amounts.{IsIn, total, highest, lowest}

pub total-replicate : (f : ℕ → ℕ) (q n : ℕ) → total f (replicate n q) ≡ f q * n
total-replicate f q zero = sym (mul-zero (f q))
total-replicate f q (suc n) =
    let rest : total f (replicate n q) ≡ f q * n = total-replicate f q n in
    omega (arith, mul-suc (f q) n)

pub in-replicate : (q p n : ℕ) → IsIn q (replicate n p) → q ≡ p
in-replicate q p zero i = absurd i
in-replicate q p (suc n) (inl is) = is
in-replicate q p (suc n) (inr i) = in-replicate q p n i

pub part-of-total : (f : ℕ → ℕ) (qs : List ℕ) (q : ℕ) → IsIn q qs → f q ≤ total f qs
part-of-total f [] q i = absurd i
part-of-total f (p ∷ ps) q (inl is) = let e : f q ≡ f p = ap f is in omega arith
part-of-total f (p ∷ ps) q (inr i) = let rest : f q ≤ total f ps = part-of-total f ps q i in omega arith

pub lowest-capped : (f : ℕ → ℕ) (qs : List ℕ) → lowest f qs ≤ 2 ^ 64
lowest-capped f [] = omega arith
lowest-capped f (q ∷ qs) = let rest : lowest f qs ≤ 2 ^ 64 = lowest-capped f qs in omega arith

pub lowest-low : (f : ℕ → ℕ) (qs : List ℕ) (q : ℕ) → IsIn q qs → lowest f qs ≤ f q
lowest-low f [] q i = absurd i
lowest-low f (p ∷ ps) q (inl is) = let e : f q ≡ f p = ap f is in omega arith
lowest-low f (p ∷ ps) q (inr i) = let rest : lowest f ps ≤ f q = lowest-low f ps q i in omega arith

pub highest-high : (f : ℕ → ℕ) (qs : List ℕ) (q : ℕ) → IsIn q qs → f q ≤ highest f qs
highest-high f [] q i = absurd i
highest-high f (p ∷ ps) q (inl is) = let e : f q ≡ f p = ap f is in omega arith
highest-high f (p ∷ ps) q (inr i) = let rest : f q ≤ highest f ps = highest-high f ps q i in omega arith

pub below_or_not : (a b : ℕ) → (a < b) ⊎ (b ≤ a)
below_or_not a b = by_test (ltb a b) refl
  where
    by_test : (r : Bool) → ltb a b ≡ r → (a < b) ⊎ (b ≤ a)
    by_test true e = inl (ltb-true a b e)
    by_test false e = inr (ltb-false a b e)

split_at : (a b : ℕ) → (a ≤ b) ⊎ (b < a)
split_at a b = elim (below_or_not b a) [ inl less ↦ inr less | inr more ↦ inl more ]

pub lowest-met : (f : ℕ → ℕ) (qs : List ℕ) → lowest f qs < 2 ^ 64 → (q : ℕ) × IsIn q qs × (f q ≡ lowest f qs)
lowest-met f [] h = absurd (omega arith)
lowest-met f (p ∷ ps) h =
    elim (split_at (f p) (lowest f ps)) [
      | inl here ↦ (p, inl refl, omega arith)
      | inr there ↦ let rest = lowest-met f ps (omega arith) in
          let e : f rest.0 ≡ lowest f ps = rest.2 in (rest.0, inr rest.1, omega arith)
    ]

pub highest-met : (f : ℕ → ℕ) (qs : List ℕ) (some : ℕ) → IsIn some qs → (q : ℕ) × IsIn q qs × (f q ≡ highest f qs)
highest-met f [] some i = absurd i
highest-met f (p ∷ []) some i = (p, inl refl, omega arith)
highest-met f (p ∷ r ∷ ps) some i =
    let rest = highest-met f (r ∷ ps) r (inl refl) in
    let e : f rest.0 ≡ highest f (r ∷ ps) = rest.2 in
    elim (split_at (highest f (r ∷ ps)) (f p)) [
      | inl here ↦ (p, inl refl, omega arith)
      | inr there ↦ (rest.0, inr rest.1, omega arith)
    ]
