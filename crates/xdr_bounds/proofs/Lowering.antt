-- One step of the rounds that lower amounts.
use Rattle.std.proofs.Common.{◌≡◌, ℕ, zero, suc, ◌+◌, ◌^◌, ◌<◌, ◌≤◌, List, [], ◌∷◌, length, get_or, replicate, ◌⊎◌, inl}
use Rattle.std.proofs.Common.{inr}
use Rattle.std.proofs.Common.{Option, Some, None, unwrap_or, Bool, true, false, eqb, eqb-true, refl, sym, ap, ◌∙◌}
use Rattle.std.proofs.Common.{subst}
use Rattle.std.proofs.Common.{arith}
use Rattle.std.proofs.Math.ListN.{set, length-set}
use Rattle.std.proofs.lemmas.Bool.{eqb-false}
use Rattle.std.proofs.lemmas.List.{get_or_read, get_or-set_same, get_or-set_other}
use Rattle.std.proofs.lemmas.Option.{none-some}
use Rattle.xdr_types.specs.Kinds.{KindView, kind_at}
use Rattle.xdr_bounds.specs.Bounds.{IsReached}
use Rattle.xdr_bounds.specs.Private.Amounts.{Amounts, Shows, amount_at}
use Rattle.xdr_bounds.specs.Private.Shapes.{AreShapes, least_over}
use Rattle.xdr_bounds.specs.Private.Rounds.{low, AreReached, Keeps, IsLowAt, weight}
use Rattle.xdr_bounds.specs.declared.shape.Shape.{Shape}
use Rattle.xdr_bounds.proofs.Least.{least_reached}

-- two names of one element
pub same_element : {X : Type 0} (xs : List X) (i : ℕ) (x y : X) → i < length xs → x ≡ get_or xs i x → y ≡ get_or xs i y
    → x ≡ y
same_element xs i x y h ex ey = get_or_read xs i x h ex y ∙ sym ey

pub same_or_not : (a b : ℕ) → (a ≡ b) ⊎ (a ≡ b → ⊥)
same_or_not a b = by_test (eqb a b) refl
  where
    by_test : (r : Bool) → eqb a b ≡ r → (a ≡ b) ⊎ (a ≡ b → ⊥)
    by_test true e = inl (eqb-true a b e)
    by_test false e = inr (λ h. eqb-false a b e h)

shown : (a : Option ℕ) → Amounts a (unwrap_or a (2 ^ 64))
shown None = omega arith
shown (Some n) = refl

-- amounts are those of the numbers that they are taken for
pub shows_low : (amounts : List (Option ℕ)) → Shows amounts (low amounts)
shows_low amounts place = shown (amount_at amounts place)

under : (a : Option ℕ) (n : ℕ) → Amounts a n → unwrap_or a (2 ^ 64) ≤ n
under None n h = h
under (Some m) n h = let is : m ≡ n = h in omega arith

exactly : (a : Option ℕ) (m n : ℕ) → a ≡ Some m → Amounts a n → m ≡ n
exactly None m n e h = absurd (none-some m e)
exactly (Some k) m n e h = let is : k ≡ n = h in let same : k ≡ m = cc in omega arith

module _ (shapes : List Shape) (amounts : List (Option ℕ)) (place : ℕ) (s : Shape) (amount : Option ℕ)
    (within : place < length shapes) (is : s ≡ get_or shapes place s)
    (by : (f : ℕ → ℕ) → Shows amounts f → Amounts amount (least_over f s)) where
  -- an amount that is not above what its shape has
  pub is_low : low amounts place ≤ unwrap_or amount (2 ^ 64) → IsLowAt shapes amounts place
  is_low not t inside at =
      let here : unwrap_or amount (2 ^ 64) ≤ least_over (low amounts) s =
      under amount (least_over (low amounts) s) (by (low amounts) (shows_low amounts)) in
      subst (λ (x : Shape). low amounts place ≤ least_over (low amounts) x) (same_element shapes place s t within is at)
      (omega arith)

  lowered : (kinds : List KindView) → AreShapes kinds shapes → AreReached kinds amounts
      → unwrap_or amount (2 ^ 64) < 2 ^ 64 → (n : ℕ) → amount ≡ Some n → IsReached kinds place n
  lowered kinds are reached small n e =
      let m = least_over (low amounts) s in
      let same : n ≡ m = exactly amount n m e (by (low amounts) (shows_low amounts)) in
      let few : n < 2 ^ 64 =
      subst (λ (a : Option ℕ). unwrap_or a (2 ^ 64) < 2 ^ 64) e small in
      subst (λ (k : ℕ). IsReached kinds place k) (sym same)
      (least_reached kinds amounts place s (are.each place s within is) reached (omega arith))

  -- a lower amount in the place of another
  pub keeps_set : length amounts ≡ length shapes → unwrap_or amount (2 ^ 64) < 2 ^ 64
      → Keeps shapes amounts (set amounts place amount)
  keeps_set lengths small = record { lengths = length-set amounts place amount; reached = all }
    where
      all : (kinds : List KindView) → AreShapes kinds shapes → AreReached kinds amounts
          → AreReached kinds (set amounts place amount)
      all kinds are reached q n e =
          elim (same_or_not q place) [
            | inl here ↦
                let inside : place < length amounts = omega (arith, within, lengths) in
                let it : amount_at (set amounts place amount) place ≡ amount =
                get_or-set_same amounts place amount None inside in
                subst (λ (p : ℕ). IsReached kinds p n) (sym here)
                (lowered kinds are reached small n
                (sym it ∙ ap (λ (p : ℕ). amount_at (set amounts place amount) p) (sym here) ∙ e))
            | inr other ↦ reached q n (sym (get_or-set_other amounts place q amount None other) ∙ e)
          ]

pub weight-set : (amounts : List (Option ℕ)) (place : ℕ) (amount : Option ℕ) → place < length amounts
    → unwrap_or amount (2 ^ 64) < low amounts place → weight (set amounts place amount) < weight amounts
weight-set [] place amount h less = absurd (omega arith)
weight-set (a ∷ amounts) zero amount h less = omega arith
weight-set (a ∷ amounts) (suc place) amount h less =
    let rest : weight (set amounts place amount) < weight amounts =
    weight-set amounts place amount (omega arith) less in omega arith

-- no amounts are reached
pub none_reached : (kinds : List KindView) (n : ℕ) → AreReached kinds (replicate n None)
none_reached kinds n place m e = absurd (none-some m (sym (none_at n place) ∙ e))
  where
    none_at : (n place : ℕ) → amount_at (replicate n None) place ≡ None
    none_at zero place = refl
    none_at (suc n) zero = refl
    none_at (suc n) (suc place) = none_at n place

pub keeps_trans : (shapes : List Shape) (a b c : List (Option ℕ)) → Keeps shapes a b → Keeps shapes b c
    → Keeps shapes a c
keeps_trans shapes a b c ab bc = record {
  lengths = bc.lengths ∙ ab.lengths;
  reached = λ kinds are r. bc.reached kinds are (ab.reached kinds are r);
}

pub keeps_refl : (shapes : List Shape) (a : List (Option ℕ)) → Keeps shapes a a
keeps_refl shapes a = record { lengths = refl; reached = λ kinds are r. r }

pub keeps_same : (shapes : List Shape) (a b : List (Option ℕ)) → b ≡ a → Keeps shapes a b
keeps_same shapes a b e = subst (λ (x : List (Option ℕ)). Keeps shapes a x) (sym e) (record {
  lengths = refl;
  reached = λ kinds are r. r;
})
