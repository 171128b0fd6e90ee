-- What follows from the bytes of a number.
use Rattle.std.proofs.Common.{◌≡◌, ℕ, ◌<◌, ◌^◌, ℤ, pos, negsuc, List, ◌++◌, take, drop, Bool, true, false, refl, ap}
use Rattle.std.proofs.Common.{sym, ◌∙◌, arith, nat_lt, ltb-true}
use Rattle.std.specs.Int.{w32, w64, from_be_bytes, cast_unsigned}
use Rattle.std.proofs.lemmas.Nat.{from_be_bytes-to_be_bytes_4, from_be_bytes-to_be_bytes_8}
use Rattle.xdr_units.specs.Numbers.{num4, num8, number_of}
use Rattle.xdr_types.specs.Fits.{is_signed}

pub num4-front : (a b : ℤ) (x y : List ℕ) → num4 a ++ x ≡ num4 b ++ y → (num4 a ≡ num4 b) × (x ≡ y)
num4-front a b x y e = (ap (take 4) e, ap (drop 4) e)

pub num8-front : (a b : ℤ) (x y : List ℕ) → num8 a ++ x ≡ num8 b ++ y → (num8 a ≡ num8 b) × (x ≡ y)
num8-front a b x y e = (ap (take 8) e, ap (drop 8) e)

same4 : (a b : ℤ) → cast_unsigned w32 a < 2 ^ 32 → cast_unsigned w32 b < 2 ^ 32 → num4 a ≡ num4 b
    → cast_unsigned w32 a ≡ cast_unsigned w32 b
same4 a b h k e = sym (from_be_bytes-to_be_bytes_4 (cast_unsigned w32 a) h) ∙ ap (from_be_bytes w32) e
    ∙ from_be_bytes-to_be_bytes_4 (cast_unsigned w32 b) k

same8 : (a b : ℤ) → cast_unsigned w64 a < 2 ^ 64 → cast_unsigned w64 b < 2 ^ 64 → num8 a ≡ num8 b
    → cast_unsigned w64 a ≡ cast_unsigned w64 b
same8 a b h k e = sym (from_be_bytes-to_be_bytes_8 (cast_unsigned w64 a) h) ∙ ap (from_be_bytes w64) e
    ∙ from_be_bytes-to_be_bytes_8 (cast_unsigned w64 b) k

-- signed numbers of one form are one
pub signed4 : (a b : ℤ) → is_signed (2 ^ 31) a ≡ true → is_signed (2 ^ 31) b ≡ true → num4 a ≡ num4 b → a ≡ b
signed4 (pos m) (pos n) h k e =
    let below = ltb-true m (2 ^ 31) h in
    let below2 = ltb-true n (2 ^ 31) k in
    ap pos (same4 (pos m) (pos n) (omega arith) (omega arith) e)
signed4 (pos m) (negsuc n) h k e =
    let below = ltb-true m (2 ^ 31) h in
    let below2 = ltb-true n (2 ^ 31) k in
    let s = same4 (pos m) (negsuc n) (omega arith) (omega arith) e in
    absurd (omega arith)
signed4 (negsuc m) (pos n) h k e =
    let below = ltb-true m (2 ^ 31) h in
    let below2 = ltb-true n (2 ^ 31) k in
    let s = same4 (negsuc m) (pos n) (omega arith) (omega arith) e in
    absurd (omega arith)
signed4 (negsuc m) (negsuc n) h k e =
    let below = ltb-true m (2 ^ 31) h in
    let below2 = ltb-true n (2 ^ 31) k in
    let s = same4 (negsuc m) (negsuc n) (omega arith) (omega arith) e in
    ap negsuc (omega arith)

pub signed8 : (a b : ℤ) → is_signed (2 ^ 63) a ≡ true → is_signed (2 ^ 63) b ≡ true
    → num8 a ≡ num8 b → a ≡ b
signed8 (pos m) (pos n) h k e =
    let below = ltb-true m (2 ^ 63) h in
    let below2 = ltb-true n (2 ^ 63) k in
    ap pos (same8 (pos m) (pos n) (omega arith) (omega arith) e)
signed8 (pos m) (negsuc n) h k e =
    let below = ltb-true m (2 ^ 63) h in
    let below2 = ltb-true n (2 ^ 63) k in
    let s = same8 (pos m) (negsuc n) (omega arith) (omega arith) e in
    absurd (omega arith)
signed8 (negsuc m) (pos n) h k e =
    let below = ltb-true m (2 ^ 63) h in
    let below2 = ltb-true n (2 ^ 63) k in
    let s = same8 (negsuc m) (pos n) (omega arith) (omega arith) e in
    absurd (omega arith)
signed8 (negsuc m) (negsuc n) h k e =
    let below = ltb-true m (2 ^ 63) h in
    let below2 = ltb-true n (2 ^ 63) k in
    let s = same8 (negsuc m) (negsuc n) (omega arith) (omega arith) e in
    ap negsuc (omega arith)

pub unsigned4 : (m n : ℕ) → nat_lt m (2 ^ 32) ≡ true → nat_lt n (2 ^ 32) ≡ true → num4 (pos m) ≡ num4 (pos n)
    → m ≡ n
unsigned4 m n h k e =
    let below = ltb-true m (2 ^ 32) h in
    let below2 = ltb-true n (2 ^ 32) k in
    same4 (pos m) (pos n) (omega arith) (omega arith) e

pub unsigned8 : (m n : ℕ) → nat_lt m (2 ^ 64) ≡ true → nat_lt n (2 ^ 64) ≡ true
    → num8 (pos m) ≡ num8 (pos n) → m ≡ n
unsigned8 m n h k e =
    let below = ltb-true m (2 ^ 64) h in
    let below2 = ltb-true n (2 ^ 64) k in
    same8 (pos m) (pos n) (omega arith) (omega arith) e

pub flags : (a b : Bool) → num4 (number_of a) ≡ num4 (number_of b) → a ≡ b
flags true true e = refl
flags true false e = absurd (omega (arith, same4 (pos 1) (pos 0) (omega arith) (omega arith) e))
flags false true e = absurd (omega (arith, same4 (pos 0) (pos 1) (omega arith) (omega arith) e))
flags false false e = refl
