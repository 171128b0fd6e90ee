-- An item's bytes that were put together are those of its pieces.
use Rattle.std.proofs.Common.{◌≡◌, ℕ, Bool, true, List, [], ◌∷◌, ◌++◌, length, refl, ap, sym, ◌∙◌, nat_eq}
use Rattle.std.proofs.Common.{arith, append-nil, eqb-true}
use Rattle.xdr_units.specs.Numbers.{padded}
use Rattle.xdr_writer.specs.Private.Bytes.{head_bytes, pieces_bytes}
use Rattle.xdr_writer.specs.declared.units.Pieces.{Pieces}

none_there : (n : ℕ) (b : Bool) → b ≡ nat_eq n 0 → b ≡ true → n ≡ 0
none_there n b e f = eqb-true n 0 (sym e ∙ f)

empty_padded : (bs : List ℕ) → length bs ≡ 0 → padded bs ≡ []
empty_padded [] e = refl
empty_padded (b ∷ bs) e = absurd (omega (arith, e))

-- without content the head is all
pub head_alone : (p : Pieces) (b : Bool) → b ≡ nat_eq (length p.content.now) 0 → b ≡ true
    → head_bytes p.head ≡ pieces_bytes p
head_alone p b e f =
    sym (append-nil (head_bytes p.head))
    ∙ ap (λ (q : List ℕ). head_bytes p.head ++ q)
    (sym (empty_padded p.content.now (none_there (length p.content.now) b e f)))
