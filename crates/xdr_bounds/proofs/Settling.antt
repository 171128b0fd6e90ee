-- One step of the rounds that settle places.
use Rattle.std.proofs.Common.{◌≡◌, ℕ, zero, suc, ◌+◌, ◌&&◌, ◌^◌, ◌<◌, ◌≤◌, List, [], ◌∷◌, length, get_or, replicate}
use Rattle.std.proofs.Common.{◌⊎◌, inl}
use Rattle.std.proofs.Common.{inr}
use Rattle.std.proofs.Common.{Option, Some, None, Bool, true, false, refl, sym, ap, ◌∙◌, subst, arith}
use Rattle.std.proofs.Math.ListN.{set, length-set}
use Rattle.std.proofs.lemmas.Bool.{false≢true}
use Rattle.std.proofs.lemmas.List.{get_or-set_same, get_or-set_other}
use Rattle.xdr_types.specs.Kinds.{KindView, kind_at}
use Rattle.xdr_types.specs.Laws.{EachKindHasAValue}
use Rattle.xdr_bounds.specs.Bounds.{IsGreatest, IsUnbounded, IsGreatestAnswer}
use Rattle.xdr_bounds.specs.Private.Amounts.{Amounts, Shows, amount_at}
use Rattle.xdr_bounds.specs.Private.Shapes.{AreShapes, greatest_over, item_needed, needs}
use Rattle.xdr_bounds.specs.Private.Rounds.{is_done, all_done, undone, IsKnown, AreKnown, IsSettledAt, AreSettled}
use Rattle.xdr_bounds.specs.Private.Rounds.{AreSound}
use Rattle.xdr_bounds.specs.Private.Rounds.{KeepsKnown, told}
use Rattle.xdr_bounds.specs.declared.shape.Shape.{Shape}
use Rattle.xdr_bounds.proofs.Uppermost.{step_known, unbounded}
use Rattle.xdr_bounds.proofs.Lowering.{same_element, same_or_not}

-- where there are items, their kind alone is asked
pub item_done : (done : List Bool) (item count : ℕ) → (count ≡ 0 → ⊥)
    → is_done done item ≡ all_done done (item_needed item count)
item_done done item zero not = absurd (not refl)
item_done done item (suc n) not = with_true (is_done done item)
  where
    with_true : (b : Bool) → b ≡ b && true
    with_true true = refl
    with_true false = refl

-- a place that is not due is settled
pub settled_at : (shapes : List Shape) (done : List Bool) (place : ℕ) (s : Shape) → place < length shapes
    → s ≡ get_or shapes place s → (is_done done place ≡ true) ⊎ (all_done done (needs s) ≡ false)
    → IsSettledAt shapes done place
settled_at shapes done place s within is either t inside at =
    subst (λ (x : Shape). (is_done done place ≡ true) ⊎ (all_done done (needs x) ≡ false))
    (same_element shapes place s t within is at) either

-- one more place is done
pub known_set : (shapes : List Shape) (amounts : List (Option ℕ)) (done : List Bool) (place : ℕ) (s : Shape)
    (amount : Option ℕ) → place < length shapes → s ≡ get_or shapes place s → length amounts ≡ length shapes
    → length done ≡ length shapes → all_done done (needs s) ≡ true
    → ((f : ℕ → ℕ) → Shows amounts f → Amounts amount (greatest_over f s))
    → KeepsKnown shapes amounts done (set amounts place amount) (set done place true)
known_set shapes amounts done place s amount within is lengths many all by = record {
  amounts = length-set amounts place amount;
  done = length-set done place true;
  known = each;
}
  where
    each : (kinds : List KindView) → AreShapes kinds shapes → EachKindHasAValue kinds → AreKnown kinds amounts done
        → AreKnown kinds (set amounts place amount) (set done place true)
    each kinds are valued known q =
        elim (same_or_not q place) [
          | inl here ↦
              let at_amounts : place < length amounts = omega (arith, within, lengths) in
              let at_done : place < length done = omega (arith, within, many) in
              let in_kinds : place < length kinds = omega (arith, within, are.lengths) in
              let now : amount_at (set amounts place amount) q ≡ amount =
              ap (λ (p : ℕ). amount_at (set amounts place amount) p) here
              ∙ get_or-set_same amounts place amount None at_amounts in
              let is_now : is_done (set done place true) q ≡ true =
              ap (λ (p : ℕ). is_done (set done place true) p) here ∙ get_or-set_same done place true false at_done in
              subst (λ (p : ℕ). IsKnown kinds p (amount_at (set amounts place amount) q) (is_done (set done place true)
              q))
              (sym here)
              (subst (λ (a : Option ℕ). IsKnown kinds place a (is_done (set done place true) q)) (sym now)
              (subst (λ (b : Bool). IsKnown kinds place amount b) (sym is_now)
              (step_known kinds place s amounts done amount (are.each place s within is) valued in_kinds known all by)))
          | inr other ↦
              subst (λ (a : Option ℕ). IsKnown kinds q a (is_done (set done place true) q))
              (sym (get_or-set_other amounts place q amount None other))
              (subst (λ (b : Bool). IsKnown kinds q (amount_at amounts q) b)
              (sym (get_or-set_other done place q true false other)) (known q))
        ]

pub undone-set : (done : List Bool) (place : ℕ) → place < length done → is_done done place ≡ false
    → undone (set done place true) < undone done
undone-set [] place h e = absurd (omega arith)
undone-set (true ∷ done) zero h e = absurd (false≢true (sym e))
undone-set (false ∷ done) zero h e = omega arith
undone-set (true ∷ done) (suc place) h e = undone-set done place (omega arith) e
undone-set (false ∷ done) (suc place) h e =
    let rest : undone (set done place true) < undone done = undone-set done place (omega arith) e in omega arith

none_at : (n place : ℕ) → amount_at (replicate n None) place ≡ None
none_at zero place = refl
none_at (suc n) zero = refl
none_at (suc n) (suc place) = none_at n place

not_at : (n place : ℕ) → is_done (replicate n false) place ≡ false
not_at zero place = refl
not_at (suc n) zero = refl
not_at (suc n) (suc place) = not_at n place

-- before the first round nothing is done
pub none_known : (kinds : List KindView) (m n : ℕ) → AreKnown kinds (replicate m None) (replicate n false)
none_known kinds m n place = record {
  after = λ e. absurd (false≢true (sym (not_at n place) ∙ e));
  before = λ e. none_at m place;
}

pub known_refl : (shapes : List Shape) (a : List (Option ℕ)) (x : List Bool) → KeepsKnown shapes a x a x
known_refl shapes a x = record { amounts = refl; done = refl; known = λ kinds are valued k. k }

pub known_trans : (shapes : List Shape) (a : List (Option ℕ)) (x : List Bool) (b : List (Option ℕ)) (y : List Bool)
    (c : List (Option ℕ)) (z : List Bool) → KeepsKnown shapes a x b y → KeepsKnown shapes b y c z
    → KeepsKnown shapes a x c z
known_trans shapes a x b y c z ab bc = record {
  amounts = bc.amounts ∙ ab.amounts;
  done = bc.done ∙ ab.done;
  known = λ kinds are valued k. bc.known kinds are valued (ab.known kinds are valued k);
}

told_right : (kinds : List KindView) (place : ℕ) (amount : Option ℕ) (b : Bool) → IsKnown kinds place amount b
    → (b ≡ false → IsUnbounded kinds place) → IsGreatestAnswer kinds place (told amount b)
told_right kinds place amount false known not = not refl
told_right kinds place None true known not = known.after refl
told_right kinds place (Some m) true known not =
    let found = known.after refl in
    subst (λ (n : ℕ). IsGreatest kinds place n) (sym found.1) found.2

-- what is told in the end is so
pub all_told : (kinds : List KindView) (shapes : List Shape) (amounts : List (Option ℕ)) (done : List Bool)
    → AreSound kinds → AreShapes kinds shapes → AreKnown kinds amounts done → AreSettled shapes done → (place : ℕ)
    → place < length kinds → IsGreatestAnswer kinds place (told (amount_at amounts place) (is_done done place))
all_told kinds shapes amounts done sound are known settled place within =
    told_right kinds place (amount_at amounts place) (is_done done place) (known place)
    (unbounded kinds sound shapes are done settled place within)
