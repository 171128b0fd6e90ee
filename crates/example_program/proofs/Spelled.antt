-- What a text of hexadecimal spells.
use Rattle.std.proofs.Common.{◌≡◌, ℕ, ◌∷◌, true, List, [], Some, Ok, refl, subst}
use Rattle.hex.specs.Hex.{decode_of, decode_pairs}
use Rattle.oncrpc_answers.specs.declared.answer.Answer.{Answer}
use Rattle.oncrpc_answers.specs.declared.answer.Answer.TheVariants as answer
use Rattle.oncrpc_tasks.specs.Hexadecimal.{digits}
use Rattle.oncrpc_tasks.specs.Right.{Question, IsRightFor, IsRightForText}

-- a space and two digits
abbrev pub text : List ℕ
text = 32 ∷ 48 ∷ 48 ∷ []

-- They spell a byte.
spells : decode_of (digits text) ≡ Ok (0 ∷ [])
unfolding decode_pairs
spells = refl

-- So they are no bad text.
pub not_bad : (q : Question) (a : Answer) (shown : List ℕ)
    → IsRightFor q true (Some text) a shown → a ≡ answer.BadHex → ⊥
not_bad q a shown right is =
    let bad : IsRightForText q text answer.BadHex shown = subst (λ b. IsRightForText q text b shown) is right in
    bad.1 (0 ∷ []) spells
