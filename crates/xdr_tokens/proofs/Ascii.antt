-- A run of letters, digits and _ is text.
use Rattle.std.proofs.Common.{◌≡◌, ℕ, zero, suc, ◌<◌, true, List, [], ◌∷◌, arith, refl, Result, Ok, Err, IsAscii}
use Rattle.std.proofs.Common.{IsUtf8, IsOk, MatchResult}
use Rattle.std.proofs.lemmas.Str.{IsUtf8-from_ascii}
use Rattle.std.proofs.lemmas.Grind.{common_steps}
use Rattle.xdr_tokens.specs.Bytes.{is_word}
use Rattle.xdr_tokens.specs.Text.{IsRun}

word_ascii : (b : ℕ) → is_word b ≡ true → b < 128
word_ascii b h = grind arith

run_ascii : (bs : List ℕ) → IsRun bs → IsAscii bs
run_ascii [] h i = grind (arith, common_steps)
run_ascii (b ∷ bs) h zero = let small = word_ascii b h.0 in grind (arith, common_steps)
run_ascii (b ∷ bs) h (suc i) = run_ascii bs h.1 i

pub run_utf8 : (bs : List ℕ) → IsRun bs → IsUtf8 bs
run_utf8 bs h = IsUtf8-from_ascii bs (run_ascii bs h)

-- what is Ok where something holds, is Ok
pub ok_where : {A E U : Type 0} (P : A → Type 0) (Q : E → Type 0) (r : Result A E) → U
    → MatchResult r P (λ e. (U → ⊥) × Q e) → IsOk r
ok_where P Q (Ok a) u h = refl
ok_where P Q (Err e) u h = absurd (h.0 u)
