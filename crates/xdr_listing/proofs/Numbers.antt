-- What decimal digits are in JSON.
use Rattle.std.proofs.Common.{◌≡◌, ℕ, ℤ, pos, negsuc, ◌<◌, ◌^◌, Bool, if◌then◌else◌, codes, decimal, sym, ap, arith}
use Rattle.std.proofs.lemmas.Bool.{lt-ltb}
use Rattle.std.specs.Fmt.{signed_decimal}
use Rattle.std.specs.Prelude.{unsigned_abs}
use Rattle.json.specs.Print.{IsNumber}
use Rattle.xdr_listing.specs.Words.{count_word}
use Rattle.json.proofs.Printed.Decimals.{IsNumber-decimal, IsNumber-signed_decimal}

pub decimal_is_number : (n : ℕ) → n < 2 ^ 64 → IsNumber (decimal n)
decimal_is_number n h = IsNumber-decimal n h

pub signed_is_number : (z : ℤ) → unsigned_abs z < 2 ^ 53 → IsNumber (signed_decimal z)
signed_is_number (pos n) h = IsNumber-signed_decimal (pos n) (omega (arith, h))
signed_is_number (negsuc n) h = IsNumber-signed_decimal (negsuc n) (omega (arith, h))

-- a machine's number is written by its digits
pub counted : (n : ℕ) → n < 2 ^ 64 → decimal n ≡ count_word n
counted n h = sym (ap (λ (b : Bool). if b then decimal n else codes "large") (lt-ltb n (2 ^ 64) h))
