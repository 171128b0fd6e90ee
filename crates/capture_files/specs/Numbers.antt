-- The numbers of a file, in the order of the bytes of the machine that wrote it (draft-ietf-opsawg-pcap section 4,
-- draft-ietf-opsawg-pcapng section 3.6).
use Rattle.std.specs.Prelude.{ℕ, List, drop, slice_index}
use Rattle.byteorder.specs.Endian.{big_number, little_number}
use Rattle.capture_files.specs.declared.numbers.Order.{Order}
use Rattle.capture_files.specs.declared.numbers.Order.TheVariants.{Big, Little}

-- the number in the first n bytes
abbrev pub number : Order → ℕ → List ℕ → ℕ
number Big n bytes = big_number n bytes
number Little n bytes = little_number n bytes

-- the byte at this place
abbrev pub byte_at : ℕ → List ℕ → ℕ
byte_at place bytes = slice_index bytes place

-- the number of 16 bits at this place
unfoldable pub half_at : Order → ℕ → List ℕ → ℕ
half_at order place bytes = number order 2 (drop place bytes)

-- the number of 32 bits at this place
unfoldable pub word_at : Order → ℕ → List ℕ → ℕ
word_at order place bytes = number order 4 (drop place bytes)
