-- A number in front of a text, with the dot behind it.
use Rattle.std.proofs.Common.{◌≡◌, ℕ, ◌+◌, ◌-◌, ◌*◌, ◌<◌, ◌≤◌, List, [], ◌∷◌, ◌++◌, length, take, drop, ◌∙◌}
use Rattle.std.proofs.Common.{slice_index_or, ap, sym, subst, arith, refl, Some}
use Rattle.std.proofs.lemmas.List.{take_all}
use Rattle.xdr_units.specs.Texts.{HasNoDot}
use Rattle.xdr_units.proofs.Cutting.{no_dot_decimal}
use Rattle.registry_uaddr.specs.Uaddrs.{octet, octets}
use Rattle.registry_uaddr.proofs.Chain.{first_is}
use Rattle.registry_uaddr.proofs.Digits.{one_digit, two_digits, three_digits}
use Rattle.registry_uaddr.proofs.Inverse.{octet_is}

-- A text begins with the number before its first dot.
cut : (p rest t : List ℕ) (n k : ℕ) → t ≡ p ++ 46 ∷ rest → octet p ≡ Some n → length rest ≤ k
    → octets t ≡ Some n ∷ octets (take k rest)
cut p rest t n k e o all =
    let w = octet_is p n o in
    first_is t p rest n (subst HasNoDot (sym w.0) (no_dot_decimal n (omega (arith, w.1)))) e (sym o)
    ∙ ap (λ r. Some n ∷ octets r) (sym (take_all k rest all))

pub one_front : (t : List ℕ) → 2 ≤ length t → 48 ≤ slice_index_or t 0 0 → slice_index_or t 0 0 ≤ 57
    → slice_index_or t 1 0 ≡ 46 → octets t ≡ Some (slice_index_or t 0 0 - 48) ∷ octets (take (length t - 2) (drop 2 t))
one_front [] long low high dot = absurd (omega (arith, long))
one_front (a ∷ []) long low high dot = absurd (omega (arith, long))
one_front (a ∷ b ∷ r) long low high dot =
    cut (a ∷ []) r (a ∷ b ∷ r) (a - 48) _ (ap (λ d. a ∷ d ∷ r) dot) (one_digit (a ∷ []) refl low high)
    (omega arith)

pub two_front : (t : List ℕ) → 3 ≤ length t → 49 ≤ slice_index_or t 0 0 → slice_index_or t 0 0 ≤ 57
    → 48 ≤ slice_index_or t 1 0 → slice_index_or t 1 0 ≤ 57 → slice_index_or t 2 0 ≡ 46
    → octets t ≡ Some ((slice_index_or t 0 0 - 48) * 10 + (slice_index_or t 1 0 - 48))
    ∷ octets (take (length t - 3) (drop 3 t))
two_front [] long la ha lb hb dot = absurd (omega (arith, long))
two_front (a ∷ []) long la ha lb hb dot = absurd (omega (arith, long))
two_front (a ∷ b ∷ []) long la ha lb hb dot = absurd (omega (arith, long))
two_front (a ∷ b ∷ c ∷ r) long la ha lb hb dot =
    cut (a ∷ b ∷ []) r (a ∷ b ∷ c ∷ r) ((a - 48) * 10 + (b - 48)) _ (ap (λ d. a ∷ b ∷ d ∷ r) dot)
    (two_digits (a ∷ b ∷ []) refl la ha lb hb) (omega arith)

pub three_front : (t : List ℕ) → 4 ≤ length t → 49 ≤ slice_index_or t 0 0 → slice_index_or t 0 0 ≤ 50
    → 48 ≤ slice_index_or t 1 0 → slice_index_or t 1 0 ≤ 57 → 48 ≤ slice_index_or t 2 0 → slice_index_or t 2 0 ≤ 57
    → slice_index_or t 3 0 ≡ 46
    → (slice_index_or t 0 0 - 48) * 100 + (slice_index_or t 1 0 - 48) * 10 + (slice_index_or t 2 0 - 48) < 256
    → octets t ≡ Some ((slice_index_or t 0 0 - 48) * 100 + (slice_index_or t 1 0 - 48) * 10
    + (slice_index_or t 2 0 - 48)) ∷ octets (take (length t - 4) (drop 4 t))
three_front [] long la ha lb hb lc hc dot few = absurd (omega (arith, long))
three_front (a ∷ []) long la ha lb hb lc hc dot few = absurd (omega (arith, long))
three_front (a ∷ b ∷ []) long la ha lb hb lc hc dot few = absurd (omega (arith, long))
three_front (a ∷ b ∷ c ∷ []) long la ha lb hb lc hc dot few = absurd (omega (arith, long))
three_front (a ∷ b ∷ c ∷ e ∷ r) long la ha lb hb lc hc dot few =
    cut (a ∷ b ∷ c ∷ []) r (a ∷ b ∷ c ∷ e ∷ r) ((a - 48) * 100 + (b - 48) * 10 + (c - 48)) _
    (ap (λ d. a ∷ b ∷ c ∷ d ∷ r) dot) (three_digits (a ∷ b ∷ c ∷ []) refl la ha lb hb lc hc few) (omega arith)
