-- White space, letters, digits, and what constants stand for (RFC 4506 section 6.2).
use Rattle.std.specs.Prelude.{ℕ, suc, ◌+◌, ◌-◌, ◌*◌, ◌^◌, Bool, ◌||◌, ◌&&◌, ◌==◌, nat_lt, List, [], ◌∷◌, Option, Some}
use Rattle.std.specs.Prelude.{None, if◌then◌else◌, option_and_then, ℤ, pos, ◌-ℤ◌}

-- low to high
abbrev pub within : ℕ → ℕ → ℕ → Bool
within low high b = nat_lt b (high + 1) && nat_lt low (b + 1)

-- space, and tab to carriage return
abbrev pub is_space : ℕ → Bool
is_space b = (b == 32) || within 9 13 b

-- A to Z, a to z
abbrev pub is_letter : ℕ → Bool
is_letter b = within 65 90 b || within 97 122 b

-- 0 to 9
abbrev pub is_digit : ℕ → Bool
is_digit b = within 48 57 b

-- a letter, a digit or _
abbrev pub is_word : ℕ → Bool
is_word b = is_letter b || is_digit b || (b == 95)

-- how many bytes of a word stand in front
unfoldable pub run_length : List ℕ → ℕ
run_length [] = 0
run_length (b ∷ bs) = if is_word b then suc (run_length bs) else 0

-- what follows the next */
unfoldable pub after_comment : List ℕ → Option (List ℕ)
after_comment [] = None
after_comment (a ∷ []) = None
after_comment (a ∷ b ∷ bs) = if (a == 42) && (b == 47) then Some bs else after_comment (b ∷ bs)

-- the value of a digit in a base
abbrev pub digit_of : ℕ → ℕ → Option ℕ
digit_of base b =
    let value = (if within 48 57 b then b - 48 else
    (if within 97 102 b then b - 87 else (if within 65 70 b then b - 55 else 16))) in
    if nat_lt value base then Some value else None

-- the number that digits spell, after those that spell n
unfoldable pub value_from : ℕ → ℕ → List ℕ → Option ℕ
value_from base n [] = Some n
value_from base n (b ∷ bs) = option_and_then (λ d. value_from base (n * base + d) bs) (digit_of base b)

-- the number that digits spell, where it is below 2 ^ 64
abbrev pub magnitude : ℕ → List ℕ → Option ℕ
magnitude base bs = option_and_then (λ n. if nat_lt n (2 ^ 64) then Some n else None) (value_from base 0 bs)

-- a first digit 1 to 9, and digits
abbrev pub decimal : List ℕ → Option ℕ
decimal [] = None
decimal (b ∷ bs) = if within 49 57 b then magnitude 10 (b ∷ bs) else None

-- after a first 0: x and hexadecimal digits, at least one, or octal digits
abbrev pub after_zero : List ℕ → Option ℕ
after_zero [] = Some 0
after_zero (x ∷ []) = if x == 120 then None else magnitude 8 (x ∷ [])
after_zero (x ∷ d ∷ ds) = if x == 120 then magnitude 16 (d ∷ ds) else magnitude 8 (x ∷ d ∷ ds)

-- a constant without a sign
abbrev pub unsigned_number : List ℕ → Option ℕ
unsigned_number [] = None
unsigned_number (b ∷ bs) = if b == 48 then after_zero bs else decimal (b ∷ bs)

-- What a constant stands for (RFC 4506 section 6.2): decimal, with - or not, hexadecimal after 0x, octal after 0; from
-- -(2 ^ 63) to 2 ^ 64 - 1.
unfoldable pub number_of : List ℕ → Option ℤ
number_of [] = None
number_of (b ∷ bs) =
    if b == 45
    then option_and_then (λ n. if nat_lt (2 ^ 63) n then None else Some (pos 0 -ℤ pos n)) (decimal bs)
    else option_and_then (λ n. Some (pos n)) (unsigned_number (b ∷ bs))
