-- What the bytes of a legal head show is that head.
use Rattle.std.proofs.Common.{◌≡◌, ℕ, ◌^◌, ◌<◌, ℤ, Bool, true, false, List, [], length, refl, ap, ◌∙◌}
use Rattle.std.proofs.Common.{lit<, Option}
use Rattle.std.specs.Int.{w32, w64, from_be_bytes}
use Rattle.xdr_units.specs.Numbers.{word, long_word}
use Rattle.xdr_types.specs.Kinds as xdr
use Rattle.xdr_types.specs.Kinds.{KindView, kind_at}
use Rattle.xdr_types.specs.Tree as value
use Rattle.xdr_types.specs.Tree.{Head}
use Rattle.xdr_types.specs.Spelling.{own}
use Rattle.xdr_types.specs.Outcome.{signed, number_in}
use Rattle.xdr_laws.specs.Owed.{truth}
use Rattle.xdr_laws.proofs.Legal.{IsSigned, IsLegal, numbered_signed}
use Rattle.xdr_laws.proofs.Numbers.{unit_of, units_of, from4-unit4, from8-unit8, signed_back, signed8, signed8_back}
use Rattle.xdr_laws.proofs.Numbers.{number_back}
use Rattle.xdr_show.specs.Private.Read.{number_shown, number_size}

-- the number of a unit, and of two
pub word_back : (n : ℕ) → n < 2 ^ 32 → from_be_bytes w32 (word n) ≡ n
word_back n h = from4-unit4 n [] h

long_back : (n : ℕ) → n < 2 ^ 64 → from_be_bytes w64 (long_word n) ≡ n
long_back n h = from8-unit8 n [] h

-- a signed number
signed_is : (z : ℤ) → IsSigned 2147483648 z → signed (from_be_bytes w32 (word (unit_of z))) ≡ z
signed_is z h = let b = signed_back z h in ap signed (word_back (unit_of z) b.0) ∙ b.1

-- a head that a number of one unit or two shows
abbrev pub IsRead : List KindView → KindView → Head → Type 0
IsRead s f h = (number_shown s f (own f h) ≡ h) × (length (own f h) ≡ number_size f)

pub read_int : (s : List KindView) (z : ℤ) → IsLegal s xdr.int (value.int z) → IsRead s xdr.int (value.int z)
read_int s z l = (ap value.int (signed_is z l), refl)

pub read_unsigned : (s : List KindView) (n : ℕ) → IsLegal s xdr.unsigned (value.unsigned n)
    → IsRead s xdr.unsigned (value.unsigned n)
read_unsigned s n l = (ap value.unsigned (word_back n l), refl)

pub read_hyper : (s : List KindView) (z : ℤ) → IsLegal s xdr.hyper (value.hyper z) → IsRead s xdr.hyper (value.hyper z)
read_hyper s z l =
    let b = signed8_back z l in
    (ap value.hyper (ap signed8 (long_back (units_of z) b.0) ∙ b.1), refl)

pub read_unsigned_hyper : (s : List KindView) (n : ℕ) → IsLegal s xdr.unsigned_hyper (value.unsigned_hyper n)
    → IsRead s xdr.unsigned_hyper (value.unsigned_hyper n)
read_unsigned_hyper s n l = (ap value.unsigned_hyper (long_back n l), refl)

pub read_boolean : (s : List KindView) (b : Bool) → IsRead s xdr.boolean (value.boolean b)
read_boolean s true = (ap truth (word_back 1 (lit< tt)), refl)
read_boolean s false = (ap truth (word_back 0 (lit< tt)), refl)

pub read_numbered : (s : List KindView) (members : List xdr.Constant) (z : ℤ)
    → IsLegal s (xdr.numbered members) (value.numbered z) → IsRead s (xdr.numbered members) (value.numbered z)
read_numbered s members z l = (ap value.numbered (signed_is z (numbered_signed members z l)), refl)

pub read_tag : (s : List KindView) (tag : ℕ) (arms : List xdr.Branch) (other : Option xdr.Part) (z : ℤ)
    → IsLegal s (xdr.choice tag arms other) (value.tag z)
    → IsRead s (xdr.choice tag arms other) (value.tag z)
read_tag s tag arms other z l =
    let b = number_back (kind_at s tag) z l.0 in
    (ap value.tag (ap (number_in (kind_at s tag)) (word_back (unit_of z) b.0) ∙ b.1), refl)
