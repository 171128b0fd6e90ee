-- The number below 256 whose decimal text a text is.
use Rattle.std.specs.Option.{unwrap_or}
use Rattle.std.proofs.Common.{◌≡◌, ℕ, ◌<◌, ◌^◌, List, refl, ap, sym, ◌∙◌, arith, Option, Some, None, Result, Ok, Err}
use Rattle.std.proofs.Common.{decimal, is_some, true≢false}
use Rattle.std.specs.Result.{OkIff, result_ok}
use Rattle.registry_uaddr.specs.Uaddrs.{octet}
use Rattle.registry_uaddr.proofs.Back.{octet_decimal}
use Rattle.registry_uaddr.proofs.Inverse.{octet_is}

none_some : {n : ℕ} → None ≡ Some n → ⊥
none_some e = true≢false (sym (ap is_some e))

-- a text that is the decimal text of no number below 256 is no octet
octet_none : (p : List ℕ) → ((n : ℕ) → n < 256 → p ≡ decimal n → ⊥) → None ≡ octet p
octet_none p never = by (octet p) refl
  where
    by : (r : Option ℕ) → octet p ≡ r → None ≡ octet p
    by None e = sym e
    by (Some n) e = let w = octet_is p n e in absurd (never n w.1 w.0)

-- nor is one that is the text of no number below 2^32
pub not_octet : (p : List ℕ) → ((n : ℕ) → n < 2 ^ 32 → p ≡ decimal n → None ≡ Some n) → None ≡ octet p
not_octet p never = octet_none p (λ n small same. none_some (never n (omega (arith, small)) same))

-- The number that the text is of is its octet if it is below 256.
pub narrowed : {E : Type 0} (r : Result ℕ E) (p : List ℕ) (n : ℕ) → OkIff r (n < 256) n → p ≡ decimal n
    → ((m : ℕ) → m < 2 ^ 32 → p ≡ decimal m → Some n ≡ Some m) → result_ok r ≡ octet p
narrowed (Ok x) p n h same one =
    ap Some h.1 ∙ sym (octet_decimal n h.0) ∙ ap octet (sym same)
narrowed (Err x) p n h same one =
    octet_none p (λ m small is. let equal : n ≡ m = ap (λ (o : Option ℕ). unwrap_or o 0)
    (one m (omega (arith, small)) is) in h
    (omega (arith, equal, small)))
