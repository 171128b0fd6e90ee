-- Whether parts mean anything, by what the code tests.
use Rattle.std.proofs.Common.{◌≡◌, ◌≢◌, ℕ, ◌<◌, ◌^◌, List, [], ◌∷◌, ◌++◌, Bool, true, false, cond, ◌&&◌, ◌||◌, refl}
use Rattle.std.proofs.Common.{ap, sym, ◌∙◌, subst, true≢false, decimal, Option, None, Some, nat_eq, if◌then◌else◌}
use Rattle.oncrpc_procedures.specs.Meant.{begins_with_digit, means}
use Rattle.std.specs.List.{filter, flat_map, list_any}
use Rattle.std.specs.Str.{bytes_eq}
use Rattle.std.proofs.lemmas.Slice.Eq.{bytes_eq-Decides}
use Rattle.std.proofs.lemmas.Bool.Decides.{Decides-eqb}

module _ {X : Type 0} (test : X → Bool) where
  -- where nothing passes nothing is kept
  pub none_kept : (xs : List X) → list_any test xs ≡ false → filter test xs ≡ []
  none_kept [] e = refl
  none_kept (x ∷ xs) e =
      (elim (test x) as (λ b. (b || list_any test xs) ≡ false
      → cond b (x ∷ filter test xs) (filter test xs) ≡ []) [
        | true ↦ λ f. absurd (true≢false f)
        | false ↦ none_kept xs
      ]) e

  -- and where something passes, something is
  pub some_kept : (xs : List X) → list_any test xs ≡ true → filter test xs ≢ []
  some_kept [] e = absurd (true≢false (sym e))
  some_kept (x ∷ xs) e =
      (elim (test x) as (λ b. (b || list_any test xs) ≡ true
      → cond b (x ∷ filter test xs) (filter test xs) ≢ []) [
        | true ↦ λ f z. cc
        | false ↦ some_kept xs
      ]) e

nil_parts : {X : Type 0} (xs ys : List X) → xs ++ ys ≡ [] → (xs ≡ []) × (ys ≡ [])
nil_parts [] ys e = (refl, e)
nil_parts (x ∷ xs) ys e = cc

neither : (a b : Bool) → (a || b) ≡ false → (a ≡ false) × (b ≡ false)
neither true b e = absurd (true≢false e)
neither false b e = (refl, e)

module _ {X Y : Type 0} (outer : X → Bool) (inner : Y → Bool) (parts : X → List Y) where
  abbrev both : X → Bool
  both x = outer x && list_any inner (parts x)

  abbrev kept : List X → List Y
  kept xs = flat_map (λ x. filter inner (parts x)) xs

  pub none_within : (xs : List X) → list_any both xs ≡ false → kept (filter outer xs) ≡ []
  none_within [] e = refl
  none_within (x ∷ xs) e =
      (elim (outer x) as (λ b. ((b && list_any inner (parts x)) || list_any both xs) ≡ false
      → kept (cond b (x ∷ filter outer xs) (filter outer xs)) ≡ []) [
        | true ↦ λ f.
            let each = neither (list_any inner (parts x)) (list_any both xs) f in
            rw (none_kept inner (parts x) each.0) (none_within xs each.1)
        | false ↦ none_within xs
      ]) e

  pub some_within : (xs : List X) → list_any both xs ≡ true → kept (filter outer xs) ≢ []
  some_within [] e = absurd (true≢false (sym e))
  some_within (x ∷ xs) e =
      (elim (outer x) as (λ b. ((b && list_any inner (parts x)) || list_any both xs) ≡ true
      → kept (cond b (x ∷ filter outer xs) (filter outer xs)) ≢ []) [
        | true ↦ λ f none.
            let empty = nil_parts (filter inner (parts x)) (kept (filter outer xs)) none in
            by (list_any inner (parts x)) refl f empty.0 empty.1 (some_within xs)
        | false ↦ some_within xs
      ]) e
    where
      by : (b : Bool) → list_any inner (parts x) ≡ b → (b || list_any both xs) ≡ true
          → filter inner (parts x) ≡ [] → kept (filter outer xs) ≡ []
          → (list_any both xs ≡ true → kept (filter outer xs) ≢ []) → ⊥
      by true is f one all more = some_kept inner (parts x) is one
      by false is f one all more = more f all

module _ (part name : List ℕ) (number : ℕ) (b : Bool) where
  -- what a part that begins with a digit means
  pub by_number : begins_with_digit part ≡ true → b ≡ bytes_eq part (decimal number) → b ≡ means part name number
  by_number digit is =
      subst (λ (d : Bool). b ≡ (if d then bytes_eq part (decimal number) else bytes_eq part name)) (sym digit) is

  -- and any other
  pub by_name : begins_with_digit part ≡ false → b ≡ bytes_eq part name → b ≡ means part name number
  by_name other is =
      subst (λ (d : Bool). b ≡ (if d then bytes_eq part (decimal number) else bytes_eq part name)) (sym other) is

-- A part that is no number means none.
pub no_number_means : (part : List ℕ) (number : ℕ) → number < 2 ^ 32
    → ((n : ℕ) → n < 2 ^ 32 → part ≡ decimal n → ◌≡◌ {A = Option ℕ} None (Some n))
    → false ≡ bytes_eq part (decimal number)
no_number_means part number small only = by (bytes_eq part (decimal number)) refl
  where
    by : (b : Bool) → bytes_eq part (decimal number) ≡ b → false ≡ b
    by false e = refl
    by true e = let none = only number small ((bytes_eq-Decides part (decimal number)).0 e) in cc

-- A part that is the decimal text of a number means what has this number.
pub number_means : (part : List ℕ) (read number : ℕ) → number < 2 ^ 32 → part ≡ decimal read
    → ((n : ℕ) → n < 2 ^ 32 → part ≡ decimal n → Some read ≡ Some n)
    → nat_eq read number ≡ bytes_eq part (decimal number)
number_means part read number small is only = by (nat_eq read number) refl
  where
    by : (b : Bool) → nat_eq read number ≡ b → b ≡ bytes_eq part (decimal number)
    by true e =
        let same : read ≡ number = (Decides-eqb read number).0 e in
        sym ((bytes_eq-Decides part (decimal number)).1 (is ∙ ap decimal same))
    by false e = other (bytes_eq part (decimal number)) refl
      where
        other : (b : Bool) → bytes_eq part (decimal number) ≡ b → false ≡ b
        other false f = refl
        other true f =
            let spelled = (bytes_eq-Decides part (decimal number)).0 f in
            let one = only number small spelled in
            let same : read ≡ number = cc in
            absurd (true≢false (sym ((Decides-eqb read number).1 same) ∙ e))
