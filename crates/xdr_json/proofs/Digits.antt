-- Digits of hexadecimal are ASCII.
use Rattle.std.proofs.Common.{ℕ, List, [], ◌∷◌, true, ◌≡◌, refl, Bool, ◌&&◌, nat_lt, ltb-true}
use Rattle.std.proofs.lemmas.Bool.{and_parts as both}
use Rattle.std.proofs.lemmas.Str.{IsUtf8-from_ascii}
use Rattle.std.proofs.lemmas.Str.Ascii.{IsAscii-nil, IsAscii-cons}
use Rattle.std.specs.Prelude.{IsAscii}
use Rattle.std.specs.Str.{IsUtf8}
use Rattle.hex.specs.Hex.{encode_lower, lower_digits}
use Rattle.hex.proofs.HexLemmas.{IsAscii-encode_with}

abbrev all_low : List ℕ → Bool
all_low [] = true
all_low (b ∷ bs) = nat_lt b 128 && all_low bs

ascii : (bs : List ℕ) → all_low bs ≡ true → IsAscii bs
ascii [] h = IsAscii-nil
ascii (b ∷ bs) h =
    let hs = both (nat_lt b 128) (all_low bs) h in
    IsAscii-cons b bs (ltb-true b 128 hs.0) (ascii bs hs.1)

-- the digits of bytes are a text
pub digits_utf8 : (bs : List ℕ) → IsUtf8 (encode_lower bs)
digits_utf8 bs = IsUtf8-from_ascii (encode_lower bs) (IsAscii-encode_with lower_digits bs (ascii lower_digits refl))
