-- Octets of one to three digits.
use Rattle.std.proofs.Common.{◌≡◌, ℕ, ◌+◌, ◌-◌, ◌*◌, ◌<◌, ◌≤◌, List, [], ◌∷◌, length}
use Rattle.std.proofs.Common.{get_or, slice_index_or, ap, sym, ◌∙◌, arith, Some, decimal}
use Rattle.std.specs.Str.Parse.{AllDigits, digits_value}
use Rattle.std.proofs.lemmas.Fmt.{decimal-digits_value}
use Rattle.std.proofs.lemmas.Str.Parse.{numerals_by_value, tells_digits}
use Rattle.std.proofs.lemmas.Str.{digit_value_digit}
use Rattle.registry_uaddr.specs.Uaddrs.{octet}
use Rattle.registry_uaddr.proofs.Back.{octet_decimal}

digits_octet : (ds : List ℕ) (n : ℕ) → AllDigits 10 ds → 0 < length ds → (get_or ds 0 0 ≡ 48 → length ds ≡ 1)
    → digits_value 10 ds ≡ n → n < 256 → octet ds ≡ Some n
digits_octet ds n all some lead is few =
    let value : decimal (digits_value 10 ds) ≡ ds =
    decimal-digits_value (numerals_by_value (AllDigits 10) tells_digits) ds all some lead (omega (arith, is, few)) in
    ap octet (sym value ∙ ap decimal is) ∙ octet_decimal n few

-- a digit by itself
one : (a : ℕ) → 48 ≤ a → a ≤ 57 → octet (a ∷ []) ≡ Some (a - 48)
one a low high =
    let d = digit_value_digit a (low, high) in
    digits_octet (a ∷ []) (a - 48) (omega (arith, d, low, high), tt) (omega arith) (λ e. omega arith)
    (omega (arith, d)) (omega (arith, high))

-- two digits, the first not 0
two : (a b : ℕ) → 49 ≤ a → a ≤ 57 → 48 ≤ b → b ≤ 57 → octet (a ∷ b ∷ []) ≡ Some ((a - 48) * 10 + (b - 48))
two a b la ha lb hb =
    let d = digit_value_digit a (omega (arith, la), ha) in
    let e = digit_value_digit b (lb, hb) in
    digits_octet (a ∷ b ∷ []) ((a - 48) * 10 + (b - 48)) (omega (arith, d, ha, la), (omega (arith, e, hb, lb), tt))
    (omega arith) (λ z. absurd (omega (arith, z, la))) (omega (arith, d, e)) (omega (arith, ha, hb))

-- three digits, the first not 0, of a number below 256
three : (a b c : ℕ) → 49 ≤ a → a ≤ 50 → 48 ≤ b → b ≤ 57 → 48 ≤ c → c ≤ 57
    → (a - 48) * 100 + (b - 48) * 10 + (c - 48) < 256
    → octet (a ∷ b ∷ c ∷ []) ≡ Some ((a - 48) * 100 + (b - 48) * 10 + (c - 48))
three a b c la ha lb hb lc hc few =
    let d = digit_value_digit a (omega (arith, la), omega (arith, ha)) in
    let e = digit_value_digit b (lb, hb) in
    let f = digit_value_digit c (lc, hc) in
    digits_octet (a ∷ b ∷ c ∷ []) ((a - 48) * 100 + (b - 48) * 10 + (c - 48))
    (omega (arith, d, ha, la), (omega (arith, e, hb, lb), (omega (arith, f, hc, lc), tt)))
    (omega arith) (λ z. absurd (omega (arith, z, la))) (omega (arith, d, e, f)) few

-- the same of a text by its bytes
pub one_digit : (t : List ℕ) → length t ≡ 1 → 48 ≤ slice_index_or t 0 0 → slice_index_or t 0 0 ≤ 57
    → octet t ≡ Some (slice_index_or t 0 0 - 48)
one_digit [] len low high = cc len
one_digit (a ∷ []) len low high = one a low high
one_digit (a ∷ b ∷ t) len low high = absurd (omega (arith, len))

pub two_digits : (t : List ℕ) → length t ≡ 2 → 49 ≤ slice_index_or t 0 0 → slice_index_or t 0 0 ≤ 57
    → 48 ≤ slice_index_or t 1 0 → slice_index_or t 1 0 ≤ 57
    → octet t ≡ Some ((slice_index_or t 0 0 - 48) * 10 + (slice_index_or t 1 0 - 48))
two_digits [] len la ha lb hb = cc len
two_digits (a ∷ []) len la ha lb hb = absurd (omega (arith, len))
two_digits (a ∷ b ∷ []) len la ha lb hb = two a b la ha lb hb
two_digits (a ∷ b ∷ c ∷ t) len la ha lb hb = absurd (omega (arith, len))

pub three_digits : (t : List ℕ) → length t ≡ 3 → 49 ≤ slice_index_or t 0 0 → slice_index_or t 0 0 ≤ 50
    → 48 ≤ slice_index_or t 1 0 → slice_index_or t 1 0 ≤ 57 → 48 ≤ slice_index_or t 2 0 → slice_index_or t 2 0 ≤ 57
    → (slice_index_or t 0 0 - 48) * 100 + (slice_index_or t 1 0 - 48) * 10 + (slice_index_or t 2 0 - 48) < 256
    → octet t ≡ Some ((slice_index_or t 0 0 - 48) * 100 + (slice_index_or t 1 0 - 48) * 10
    + (slice_index_or t 2 0 - 48))
three_digits [] len la ha lb hb lc hc few = cc len
three_digits (a ∷ []) len la ha lb hb lc hc few = absurd (omega (arith, len))
three_digits (a ∷ b ∷ []) len la ha lb hb lc hc few = absurd (omega (arith, len))
three_digits (a ∷ b ∷ c ∷ []) len la ha lb hb lc hc few = three a b c la ha lb hb lc hc few
three_digits (a ∷ b ∷ c ∷ d ∷ t) len la ha lb hb lc hc few = absurd (omega (arith, len))
