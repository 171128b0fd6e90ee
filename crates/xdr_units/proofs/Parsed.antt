-- What is parsed as a number is it, where its decimal text is the text that was parsed.
use Rattle.std.specs.Option.{unwrap_or}
use Rattle.std.proofs.Common.{◌≡◌, ℕ, ◌<◌, ◌^◌, Bool, true, List, ap, sym, ◌∙◌, subst, arith, Option, Some, None}
use Rattle.std.proofs.Common.{Result, Ok, Err, decimal, MatchResult, is_some, true≢false}
use Rattle.std.specs.Result.{result_ok}
use Rattle.std.specs.Bool.{then_some}
use Rattle.std.specs.Str.{IsUtf8, bytes_eq}
use Rattle.std.specs.Str.Parse.{ParsesUnsigned}
use Rattle.std.proofs.lemmas.Str.{IsUtf8-from_ascii}
use Rattle.std.proofs.lemmas.Fmt.{IsAscii-decimal, parse-decimal}
use Rattle.std.proofs.lemmas.Slice.Eq.{bytes_eq-Decides}

pub wide : (n : ℕ) → n < 2 ^ 32 → n < 2 ^ 64
wide n h = omega (arith, h)

no_value : {A E : Type 0} (r : Result A E) (x : A) → r ≡ Ok x → result_ok r ≡ None → ⊥
no_value r x e f = true≢false (ap is_some (sym (ap result_ok e) ∙ f))

-- A text that is not UTF-8 is no number's.
pub no_number_utf8 : {A E : Type 0} (r : Result A E) (P : A → Type 0) (Q : E → Type 0) (text : List ℕ)
    → MatchResult r P (λ e. (IsUtf8 text → ⊥) × Q e) → result_ok r ≡ None → (n : ℕ) → n < 2 ^ 32 → text ≡ decimal n → ⊥
no_number_utf8 (Ok x) P Q text h e n small same = true≢false (ap is_some e)
no_number_utf8 (Err x) P Q text h e n small same =
    h.0 (subst IsUtf8 (sym same) (IsUtf8-from_ascii (decimal n) (IsAscii-decimal n (wide n small))))

pub utf8_same : {A E : Type 0} (now : A → List ℕ) (r : Result A E) (U : Type 0) (Q : E → Type 0) (text : List ℕ) (x : A)
    → MatchResult r (λ s. (now s ≡ text) × U) Q → result_ok r ≡ Some x → now x ≡ text
utf8_same {A} now (Ok y) U Q text x h e = sym (ap (λ o. from o) e) ∙ h.0
  where
    from : Option A → List ℕ
    from None = now y
    from (Some z) = now z
utf8_same now (Err y) U Q text x h e = absurd (true≢false (sym (ap is_some e)))

-- A text that is not parsed is no number's.
pub no_number_parsed : {E : Type 0} (r : Result ℕ E) (digits text : List ℕ) → digits ≡ text
    → ParsesUnsigned 32 10 digits r → result_ok r ≡ None
    → (n : ℕ) → n < 2 ^ 32 → text ≡ decimal n → ⊥
no_number_parsed r digits text s p e n small same =
    no_value r n (parse-decimal 32 n digits r small (wide n small) (s ∙ same) p) e

-- The text of a number is parsed as it.
pub number_parsed : {E : Type 0} (r : Result ℕ E) (digits text : List ℕ) (m : ℕ) (b : Bool) → digits ≡ text
    → ParsesUnsigned 32 10 digits r → result_ok r ≡ Some m
    → b ≡ bytes_eq (decimal m) text → (n : ℕ) → n < 2 ^ 32 → text ≡ decimal n → then_some b m ≡ Some n
number_parsed r digits text m b s p e d n small same =
    let k : m ≡ n = ap (λ (o : Option ℕ). unwrap_or o 0)
    (sym e ∙ ap result_ok (parse-decimal 32 n digits r small (wide n small) (s ∙ same) p)) in
    let t : b ≡ true = d ∙ (bytes_eq-Decides (decimal m) text).1 (ap decimal k ∙ sym same) in
    ap (λ c. then_some c m) t ∙ ap Some k
