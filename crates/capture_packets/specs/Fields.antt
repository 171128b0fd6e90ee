-- The numbers of headers: the highest byte first (RFC 791 appendix B).
use Rattle.std.specs.Prelude.{ℕ, List, drop, slice_index}
use Rattle.byteorder.specs.Endian.{big_number}

-- the byte at this place
abbrev pub byte_at : ℕ → List ℕ → ℕ
byte_at place bytes = slice_index bytes place

-- the number of 16 bits at this place
unfoldable pub half_at : ℕ → List ℕ → ℕ
half_at place bytes = big_number 2 (drop place bytes)

-- the number of 32 bits at this place
unfoldable pub word_at : ℕ → List ℕ → ℕ
word_at place bytes = big_number 4 (drop place bytes)
