-- Worked examples: bytes that are no value's, and a value beyond its limit.
use Rattle.std.proofs.Common.{◌≡◌, ℕ, pos, List, [], ◌∷◌, ◌++◌, length, replicate, true, ap, ◌∙◌, arith, refl, sym}
use Rattle.std.proofs.Common.{append_assoc}
use Rattle.std.proofs.lemmas.Bool.{false≢true}
use Rattle.xdr_units.proofs.Bytes.{same_front}
use Rattle.xdr_types.specs.Kinds as xdr
use Rattle.xdr_types.specs.Kinds.{KindView}
use Rattle.xdr_types.specs.Tree as value
use Rattle.xdr_types.specs.Tree.{Head, Values, Tree}
use Rattle.xdr_units.specs.Numbers.{pad}
use Rattle.xdr_types.specs.Fits.{fits, is_legal}
use Rattle.xdr_types.specs.Spelling.{own, bytes_of}
use Rattle.xdr_types.specs.Within.{FitsWithin}
use Rattle.xdr_types.proofs.Numbers.{num4-front}
use Rattle.xdr_types.proofs.Unique.{both, lengths}

-- opaque five<5>
abbrev five : List KindView
five = xdr.opaque_up_to 5 ∷ []

-- no value's length 3 and its content are followed by a byte that is not zero
no_padding_of_one : (h : Head) → is_legal five (xdr.opaque_up_to 5) h ≡ true
    → own (xdr.opaque_up_to 5) h ++ [] ≡ 0 ∷ 0 ∷ 0 ∷ 3 ∷ 97 ∷ 98 ∷ 99 ∷ 1 ∷ [] → ⊥
no_padding_of_one (value.bytes bs) h e =
    let front = num4-front (pos (length bs)) (pos 3) ((bs ++ pad (length bs)) ++ []) (97 ∷ 98 ∷ 99 ∷ 1 ∷ []) e in
    let three : length bs ≡ 3 = lengths (length bs) 3 5 (both _ _ h).0 refl front.0 in
    let rest = same_front bs (97 ∷ 98 ∷ 99 ∷ []) (pad (length bs) ++ []) (1 ∷ []) three
    (sym (append_assoc bs (pad (length bs)) []) ∙ front.1) in
    let zero : pad 3 ++ [] ≡ 1 ∷ [] = ap (λ (n : ℕ). pad n ++ []) (sym three) ∙ rest.1 in
    absurd (omega (arith, ap first zero))
  where
    first : List ℕ → ℕ
    first [] = 0
    first (b ∷ bs) = b
no_padding_of_one _ h e = absurd (false≢true h)

pub nonzero_padding : (t : Tree) → fits five 0 t ≡ true → bytes_of five 0 t ≡ 0 ∷ 0 ∷ 0 ∷ 3 ∷ 97 ∷ 98 ∷ 99 ∷ 1 ∷ [] → ⊥
nonzero_padding t h e = no_padding_of_one t.0 (both _ _ h).0 e

-- eight bytes of opaque have twelve bytes, which a limit of eight does not admit
pub beyond_the_limit : FitsWithin (xdr.opaque_up_to 4294967295 ∷ []) 0 (record { depth = 4096; bytes = 8 })
    (value.bytes (replicate 8 97), value.none) → ⊥
beyond_the_limit h = absurd (omega (arith, h.1.1))
