-- A number only grows as digits come.
use Rattle.std.proofs.Common.{◌≡◌, ℕ, ◌+◌, ◌*◌, ◌^◌, ◌≤◌, cond, ltb, List, [], ◌∷◌, Option, Some, None, refl, sym, ap}
use Rattle.std.proofs.Common.{◌∙◌, arith}
use Rattle.std.specs.Prelude.{option_and_then}
use Rattle.std.proofs.Math.Nat.{mul-le-mul_left}
use Rattle.std.proofs.lemmas.Bool.{le-ltb}
use Rattle.xdr_tokens.specs.Bytes.{digit_of, value_from, magnitude}
use Rattle.xdr_tokens.proofs.Options.{some_is, bind_some}

pub grows : (base n v : ℕ) (bs : List ℕ) → 1 ≤ base → value_from base n bs ≡ Some v → n ≤ v
unfolding value_from
grows base n v [] le e = omega (arith, some_is n v e)
grows base n v (b ∷ bs) le e =
    let d = bind_some (digit_of base b) (λ d. value_from base (n * base + d) bs) v e in
    let more = grows base (n * base + d.0) v bs le d.2 in
    let times : n ≤ n * base = omega (arith, mul-le-mul_left n le) in
    omega (arith, more, times)

capped : (o : Option ℕ) → ((v : ℕ) → o ≡ Some v → 2 ^ 64 ≤ v)
    → option_and_then (λ n. cond (ltb n (2 ^ 64)) (Some n) None) o ≡ None
capped None h = refl
capped (Some v) h = rw (le-ltb v (2 ^ 64) (h v refl)) refl

-- a number that has passed the limit stays there
pub past : (base n : ℕ) (bs : List ℕ) → 1 ≤ base → 2 ^ 64 ≤ n
    → option_and_then (λ n. cond (ltb n (2 ^ 64)) (Some n) None) (value_from base n bs) ≡ None
past base n bs le big = capped (value_from base n bs) (λ v e. omega (arith, grows base n v bs le e))

pub too_large : (base n d b : ℕ) (bs all : List ℕ) → 1 ≤ base → Some d ≡ digit_of base b → 2 ^ 64 ≤ n * base + d
    → value_from base n (b ∷ bs) ≡ value_from base 0 all → None ≡ magnitude base all
unfolding value_from
too_large base n d b bs all le digit big so_far =
    let step : value_from base n (b ∷ bs) ≡ value_from base (n * base + d) bs = rw (← digit) refl in
    sym (ap (option_and_then (λ (n : ℕ). cond (ltb n (2 ^ 64)) (Some n) None)) (sym so_far ∙ step)
    ∙ past base (n * base + d) bs le big)
