-- Bytes written as hexadecimal text, between which white space may stand.
use Rattle.std.specs.Prelude.{◌≡◌, ℕ, Bool, ◌==◌, ◌&&◌, ◌||◌, not, nat_le, List, filter, Ok}
use Rattle.hex.specs.Hex.{decode_of}

-- space, tab, line feed, vertical tab, form feed and carriage return
abbrev pub is_space : ℕ → Bool
is_space b = (b == 32) || (nat_le 9 b && nat_le b 13)

-- the text without its white space
abbrev pub digits : List ℕ → List ℕ
digits text = filter (λ b. not (is_space b)) text

-- the text is no hexadecimal: it spells no bytes
abbrev pub IsBadHex : List ℕ → Type 0
IsBadHex text = (bytes : List ℕ) → decode_of (digits text) ≡ Ok bytes → ⊥
