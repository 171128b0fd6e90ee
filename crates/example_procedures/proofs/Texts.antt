-- Parts without dots, which are names and numbers or neither.
use Rattle.std.proofs.Common.{◌≡◌, ℕ, ◌<◌, ◌^◌, ◌&&◌, Bool, true, false, not, nat_eq, List, [], ◌∷◌, decimal, codes}
use Rattle.std.proofs.Common.{refl}
use Rattle.std.proofs.Common.{ap, sym, ◌∙◌, true≢false, arith, inl, inr}
use Rattle.std.specs.List.{list_all}
use Rattle.std.specs.Str.Parse.{digits_value}
use Rattle.std.proofs.lemmas.Fmt.{decimal_is_IsNumeral}
use Rattle.xdr_units.specs.Texts.{HasNoDot}
use Rattle.oncrpc_procedures.specs.Meant.{Parts, begins_with_digit}
use Rattle.oncrpc_procedures.specs.Names.{IsNoNumber}
use Rattle.oncrpc_procedures.specs.Unnamed.{IsFirstUnread}
use Rattle.example_procedures.proofs.Decimals.{three_text}

abbrev pub dotless : List ℕ → Bool
dotless xs = list_all (λ (b : ℕ). not (nat_eq b 46)) xs

first_of : (a b : Bool) → (not a && b) ≡ true → (a ≡ false) × (b ≡ true)
first_of false b e = (refl, e)
first_of true b e = absurd (true≢false (sym e))

pub has_no_dot : (xs : List ℕ) → dotless xs ≡ true → HasNoDot xs
has_no_dot [] e = tt
has_no_dot (x ∷ xs) e = let both = first_of (nat_eq x 46) (dotless xs) e in (both.0, has_no_dot xs both.1)

-- a part that begins with no digit is a name
pub a_name : (part : List ℕ) → begins_with_digit part ≡ false → IsNoNumber part → ⊥
a_name part e bad = true≢false (sym bad.0 ∙ e)

-- the decimal text of a number is one
pub a_number : (part : List ℕ) (n : ℕ) → n < 2 ^ 32 → part ≡ decimal n → IsNoNumber part → ⊥
a_number part n small e bad = bad.1 n small e

pub all_read : (p : Parts) → (IsNoNumber p.program → ⊥) → (IsNoNumber p.version → ⊥) → (IsNoNumber p.procedure → ⊥)
    → (k : ℕ) → IsFirstUnread k p → ⊥
all_read p a b c k (inl first) = a first.1
all_read p a b c k (inr (inl second)) = b second.2
all_read p a b c k (inr (inr third)) = c third.3

-- 03 is the decimal text of no number
pub leading_zero : IsNoNumber (codes "03")
leading_zero = (
  refl,
  λ n small e.
      let wide : n < 2 ^ 64 = omega (arith, small) in
      let value = (decimal_is_IsNumeral n wide).1 in
      let three : n ≡ 3 = sym value ∙ ap (digits_value 10) (sym e) in
      let both : codes "03" ≡ codes "3" = e ∙ ap decimal three ∙ three_text in cc,
)
