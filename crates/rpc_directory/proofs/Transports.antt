-- Two unsets are the one of both transports.
use Rattle.std.proofs.Common.{◌≡◌, ℕ, Bool, true, false, not, ◌||◌, cond, List, [], ◌∷◌, refl, ap, ◌∙◌, filter}
use Rattle.std.specs.List.{list_any}
use Rattle.registry_rows.specs.Rows.{Row}
use Rattle.registry_rows.specs.Steps.{unset, is_unset}
use Rattle.registry_rows.specs.Ports.{unset_port, tcp, udp}

module _ {X : Type 0} (s t : X → Bool) where
  filter_twice : (xs : List X)
      → filter (λ x. not (t x)) (filter (λ x. not (s x)) xs) ≡ filter (λ x. not (s x || t x)) xs
  filter_twice [] = refl
  filter_twice (x ∷ xs) = by (s x) (t x) refl (filter_twice xs)
    where
      by : (a b : Bool) → t x ≡ b
          → filter (λ x. not (t x)) (filter (λ x. not (s x)) xs) ≡ filter (λ x. not (s x || t x)) xs
          → filter (λ x. not (t x)) (cond (not a) (x ∷ filter (λ x. not (s x)) xs) (filter (λ x. not (s x)) xs))
          ≡ cond (not (a || t x)) (x ∷ filter (λ x. not (s x || t x)) xs) (filter (λ x. not (s x || t x)) xs)
      by true b e p = p
      by false b e p = ap (cond (not (t x)) (x ∷ filter (λ x. not (t x)) (filter (λ x. not (s x)) xs))) p
          ∙ ap (λ r. cond (not (t x)) (x ∷ r) (filter (λ x. not (s x || t x)) xs)) p

  any_twice : (xs : List X) → (list_any s xs || list_any t (filter (λ x. not (s x)) xs)) ≡ list_any (λ x. s x || t x) xs
  any_twice [] = refl
  any_twice (x ∷ xs) = by (s x) (any_twice xs)
    where
      swap : (a b c : Bool) → (a || (b || c)) ≡ (b || (a || c))
      swap true true c = refl
      swap true false c = refl
      swap false b c = refl

      by : (a : Bool) → (list_any s xs || list_any t (filter (λ x. not (s x)) xs)) ≡ list_any (λ x. s x || t x) xs
          → ((a || list_any s xs) || list_any t
          (cond (not a) (x ∷ filter (λ x. not (s x)) xs) (filter (λ x. not (s x)) xs)))
          ≡ ((a || t x) || list_any (λ x. s x || t x) xs)
      by true p = refl
      by false p = swap (list_any s xs) (t x) _ ∙ ap (λ r. t x || r) p

pub unset_both : (rows first second : List Row) (a b : Bool) (prog vers : ℕ) (owner : List ℕ)
    → (first, a) ≡ unset rows prog vers tcp owner → (second, b) ≡ unset first prog vers udp owner → (second, a || b)
    ≡ unset_port rows prog vers owner
unset_both rows first second a b prog vers owner e f =
    let s = is_unset prog vers tcp owner in
    let t = is_unset prog vers udp owner in
    let rs : first ≡ filter (λ r. not (s r)) rows = ap (λ p. p.0) e in
    let qs : second ≡ filter (λ r. not (s r || t r)) rows = ap (λ p. p.0) f ∙ ap (filter (λ r. not (t r))) rs
    ∙ filter_twice s t rows in
    let x : a ≡ list_any s rows = ap (λ p. p.1) e in
    let y : b ≡ list_any t (filter (λ r. not (s r)) rows) = ap (λ p. p.1) f ∙ ap (list_any t) rs in
    let z : (a || b) ≡ list_any (λ r. s r || t r) rows = (λ j. x j || y j) ∙ any_twice s t rows in
    λ j. (qs j, z j)
