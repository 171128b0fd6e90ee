-- The numbers that parts of a value have.
use Rattle.std.specs.Prelude.{◌≡◌, ℕ, ◌<◌, ◌^◌, ℤ, pos, List, ⊤, FitsSigned}
use Rattle.std.specs.Int.{w32, w64}
use Rattle.xdr_types.specs.Kinds as xdr
use Rattle.xdr_types.specs.Kinds.{KindView, kind_at}
use Rattle.xdr_parts.specs.declared.part.Lent.{Lent}
use Rattle.xdr_parts.specs.declared.part.Role.{Role}
use Rattle.xdr_parts.specs.declared.part.Role.TheVariants.{Number, Flag, Length}
use Rattle.xdr_units.specs.Numbers.{num4, num8, word, long_word}

-- the part is a number, a flag or a length
abbrev pub HasNumber : Role → Type 0
HasNumber Number = ⊤
HasNumber Flag = ⊤
HasNumber Length = ⊤
HasNumber _ = ⊥

-- the bytes are those of a number of this kind: a signed or an unsigned one of a unit, or of two (RFC 4506 sections 4.1
-- to 4.5). A flag and a length are unsigned (sections 4.10 to 4.13, 4.19)
abbrev pub IsNumberIn : KindView → (bytes : List ℕ) → ℤ → Type 0
IsNumberIn xdr.int bytes z = FitsSigned w32 z × (bytes ≡ num4 z)
IsNumberIn (xdr.numbered members) bytes z = FitsSigned w32 z × (bytes ≡ num4 z)
IsNumberIn xdr.hyper bytes z = FitsSigned w64 z × (bytes ≡ num8 z)
IsNumberIn xdr.unsigned_hyper bytes z = (n : ℕ) × (n < 2 ^ 64) × (z ≡ pos n) × (bytes ≡ long_word n)
IsNumberIn _ bytes z = (n : ℕ) × (n < 2 ^ 32) × (z ≡ pos n) × (bytes ≡ word n)

-- the kind whose numbers a part of a kind has: of a union the discriminant's (RFC 4506 section 4.15)
abbrev pub numbers_of : List KindView → KindView → KindView
numbers_of kinds (xdr.choice tag arms other) = kind_at kinds tag
numbers_of kinds kind = kind

-- the part is a number, a flag or a length, and its bytes are those of this number in its kind
abbrev pub IsNumberOf : List KindView → Lent → ℤ → Type 0
IsNumberOf kinds l z = HasNumber l.role × IsNumberIn (numbers_of kinds (kind_at kinds l.kind.place)) l.bytes.now z
