-- Numbers, padding and padded content as bytes, most significant byte first; signed numbers are two's complement
-- (RFC 4506 sections 3 and 4).
use Rattle.std.specs.Prelude.{ℕ, ◌-◌, ◌%◌, ◌<◌, ◌^◌, ℤ, pos, List, Bool, true, false, ◌++◌, length, replicate}
use Rattle.std.specs.Int.{w32, w64, to_be_bytes, cast_unsigned}
use Rattle.std.specs.List.{AllByRecursion}

-- the four bytes of an unsigned number below 2^32 (RFC 4506 section 4.2)
abbrev pub word : ℕ → List ℕ
word n = to_be_bytes w32 n

-- the eight bytes of an unsigned number below 2^64 (RFC 4506 section 4.5)
abbrev pub long_word : ℕ → List ℕ
long_word n = to_be_bytes w64 n

-- the four bytes of a number from -2^31 to 2^32 - 1, as it is modulo 2^32 (RFC 4506 sections 4.1, 4.2)
abbrev pub num4 : ℤ → List ℕ
num4 z = word (cast_unsigned w32 z)

-- the eight bytes of a number from -2^63 to 2^64 - 1, as it is modulo 2^64 (RFC 4506 section 4.5)
abbrev pub num8 : ℤ → List ℕ
num8 z = long_word (cast_unsigned w64 z)

-- FALSE is 0 and TRUE is 1 (RFC 4506 section 4.4)
abbrev pub number_of : Bool → ℤ
number_of true = pos 1
number_of false = pos 0

-- how many bytes are missing to a multiple of four (RFC 4506 section 3)
abbrev pub gap : ℕ → ℕ
gap n = (4 - n % 4) % 4

-- the 0 to 3 zero bytes that bring n to the next multiple of four (RFC 4506 section 3)
abbrev pub pad : ℕ → List ℕ
pad n = replicate (gap n) 0

-- bytes, and the zeros that fill their last unit (RFC 4506 section 3)
abbrev pub padded : List ℕ → List ℕ
padded bytes = bytes ++ pad (length bytes)

-- ---- ranges

-- a number that has four bytes (RFC 4506 section 4.2)
abbrev pub IsWord : ℕ → Type 0
IsWord n = n < 2 ^ 32

-- each number is a byte
abbrev pub AreBytes : List ℕ → Type 0
AreBytes bytes = AllByRecursion (λ (b : ℕ). b < 256) bytes
