-- Numbers and their units.
use Rattle.std.proofs.Common.{◌≡◌, ℕ, ◌-◌, ◌^◌, ◌<◌, ◌≤◌, ℤ, pos, negsuc, true, cond, nat_lt, List, ◌++◌, length}
use Rattle.std.proofs.Common.{take, drop, refl, ap, ◌∙◌, arith}
use Rattle.std.specs.Int.{w32, w64, from_be_bytes, cast_unsigned}
use Rattle.std.proofs.lemmas.Nat.{from_be_bytes-to_be_bytes_4, from_be_bytes-to_be_bytes_8}
use Rattle.std.proofs.lemmas.Bool.{ltb-true, le-ltb, lt-ltb}
use Rattle.xdr_types.specs.Kinds as xdr
use Rattle.xdr_types.specs.Kinds.{KindView, Constant}
use Rattle.xdr_types.specs.Fits.{is_tag_of}
use Rattle.xdr_types.specs.Outcome.{signed, number_in}
use Rattle.std.proofs.lemmas.Bool.{false≢true}
use Rattle.xdr_units.specs.Numbers.{word, long_word}
use Rattle.xdr_laws.proofs.Legal.{IsSigned, signed_is, numbered_signed}

abbrev pub unit_of : ℤ → ℕ
unit_of z = cast_unsigned w32 z

abbrev pub units_of : ℤ → ℕ
units_of z = cast_unsigned w64 z

-- the number of the first four bytes
abbrev pub from4 : List ℕ → ℕ
from4 b = from_be_bytes w32 (take 4 b)

abbrev pub from8 : List ℕ → ℕ
from8 b = from_be_bytes w64 (take 8 b)

pub unit4-length : (n : ℕ) → length (word n) ≡ 4
unit4-length n = refl

pub unit8-length : (n : ℕ) → length (long_word n) ≡ 8
unit8-length n = refl

pub from4-unit4 : (n : ℕ) (x : List ℕ) → n < 2 ^ 32 → from4 (word n ++ x) ≡ n
from4-unit4 n x h = from_be_bytes-to_be_bytes_4 n h

pub from8-unit8 : (n : ℕ) (x : List ℕ) → n < 2 ^ 64 → from8 (long_word n ++ x) ≡ n
from8-unit8 n x h = from_be_bytes-to_be_bytes_8 n h

pub drop4-unit4 : (n : ℕ) (x : List ℕ) → drop 4 (word n ++ x) ≡ x
drop4-unit4 n x = refl

pub drop8-unit8 : (n : ℕ) (x : List ℕ) → drop 8 (long_word n ++ x) ≡ x
drop8-unit8 n x = refl

-- ---- signed numbers

pub signed_low : (x : ℕ) → x < 2 ^ 31 → signed x ≡ pos x
signed_low x h = rw (lt-ltb x (2 ^ 31) h) refl

pub signed_high : (x : ℕ) → 2 ^ 31 ≤ x → signed x ≡ negsuc (2 ^ 32 - 1 - x)
signed_high x h = rw (le-ltb x (2 ^ 31) h) refl

pub signed_back : (z : ℤ) → IsSigned (2 ^ 31) z → (unit_of z < 2 ^ 32) × (signed (unit_of z) ≡ z)
signed_back (pos n) h = (omega arith, signed_low n h)
signed_back (negsuc n) h =
    let e : unit_of (negsuc n) ≡ 2 ^ 32 - 1 - n = omega arith in
    let back : 2 ^ 32 - 1 - (2 ^ 32 - 1 - n) ≡ n = omega arith in
    (omega arith, ap signed e ∙ signed_high (2 ^ 32 - 1 - n) (omega arith) ∙ ap negsuc back)

-- the number in two units, as a signed one
abbrev pub signed8 : ℕ → ℤ
signed8 x = cond (nat_lt x (2 ^ 63)) (pos x) (negsuc (2 ^ 64 - 1 - x))

pub signed8_low : (x : ℕ) → x < 2 ^ 63 → signed8 x ≡ pos x
signed8_low x h = rw (lt-ltb x (2 ^ 63) h) refl

pub signed8_high : (x : ℕ) → 2 ^ 63 ≤ x → signed8 x ≡ negsuc (2 ^ 64 - 1 - x)
signed8_high x h = rw (le-ltb x (2 ^ 63) h) refl

pub signed8_back : (z : ℤ) → IsSigned (2 ^ 63) z → (units_of z < 2 ^ 64) × (signed8 (units_of z) ≡ z)
signed8_back (pos n) h = (omega arith, signed8_low n h)
signed8_back (negsuc n) h =
    let e : units_of (negsuc n) ≡ 2 ^ 64 - 1 - n = omega arith in
    let back : 2 ^ 64 - 1 - (2 ^ 64 - 1 - n) ≡ n = omega arith in
    (omega arith, ap signed8 e ∙ signed8_high (2 ^ 64 - 1 - n) (omega arith) ∙ ap negsuc back)

pub number_back : (k : KindView) (z : ℤ) → is_tag_of k z ≡ true → (unit_of z < 2 ^ 32) × (number_in k (unit_of z) ≡ z)
number_back xdr.int z h = signed_back z (signed_is (2 ^ 31) z h)
number_back xdr.unsigned (pos n) h = let low = ltb-true n (2 ^ 32) h in (omega arith, refl)
number_back xdr.boolean (pos n) h = let low = ltb-true n 2 h in (omega arith, refl)
number_back (xdr.numbered constants) z h = signed_back z (numbered_signed constants z h)
number_back xdr.unsigned (negsuc n) h = absurd (false≢true h)
number_back xdr.boolean (negsuc n) h = absurd (false≢true h)
number_back _ z h = absurd (false≢true h)
