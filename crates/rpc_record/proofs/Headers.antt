-- A fragment's header as four bytes.
use Rattle.std.proofs.Common.{◌≡◌, ℕ, zero, suc, ◌+◌, ◌-◌, ◌^◌, ◌<◌, ◌≤◌, Bool, true, false, [], ◌∷◌, length, get_or}
use Rattle.std.proofs.Common.{refl, ap, ◌∙◌, arith}
use Rattle.std.specs.Int.{w32, to_be_bytes, from_be_bytes}
use Rattle.std.proofs.lemmas.Nat.{be_bytes_4}
use Rattle.rpc_record.specs.Marked.{header}

pub length-header : (last : Bool) (count : ℕ) → length (header last count) ≡ 4
unfolding header
length-header last count = refl

four_bytes : (a b c d : ℕ) → a < 256 → b < 256 → c < 256 → d < 256 → (i : ℕ) → get_or (a ∷ b ∷ c ∷ d ∷ []) i 0 < 256
four_bytes a b c d p q r s zero = p
four_bytes a b c d p q r s (suc zero) = q
four_bytes a b c d p q r s (suc (suc zero)) = r
four_bytes a b c d p q r s (suc (suc (suc zero))) = s
four_bytes a b c d p q r s (suc (suc (suc (suc i)))) = omega arith

pub header-first : (a b c d n : ℕ) → a < 256 → b < 256 → c < 256 → d < 256 → n ≡ from_be_bytes w32 (a ∷ b ∷ c ∷ d ∷ [])
    → header false n ≡ a ∷ b ∷ c ∷ d ∷ []
unfolding header
header-first a b c d n p q r s e = be_bytes_4 _ n refl (four_bytes a b c d p q r s) e

pub header-last : (a b c d n : ℕ) → a < 256 → b < 256 → c < 256 → d < 256 → n ≡ from_be_bytes w32 (a ∷ b ∷ c ∷ d ∷ [])
    → 2 ^ 31 ≤ n → header true (n - 2 ^ 31) ≡ a ∷ b ∷ c ∷ d ∷ []
unfolding header
header-last a b c d n p q r s e h =
    let back : 2 ^ 31 + (n - 2 ^ 31) ≡ n = omega arith in
    ap (to_be_bytes w32) back ∙ be_bytes_4 _ n refl (four_bytes a b c d p q r s) e
