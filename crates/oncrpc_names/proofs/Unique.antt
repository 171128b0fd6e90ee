-- A text is the name of one part alone.
use Rattle.std.proofs.Common.{◌≡◌, ◌≢◌, ℕ, ◌<◌, ◌^◌, List, ◌∷◌, ◌++◌, ap, sym, subst, ◌∙◌, arith, decimal, codes}
use Rattle.std.specs.Str.Parse.{AllDigits}
use Rattle.std.proofs.lemmas.Str.Parse.{digit_from_value}
use Rattle.std.proofs.lemmas.Fmt.{decimal_is_IsNumeral}
use Rattle.xdr_units.specs.Texts.{HasNoDot}
use Rattle.xdr_units.proofs.Parsed.{wide}
use Rattle.xdr_units.proofs.Cutting.{no_dot_decimal, same_cut}
use Rattle.oncrpc_names.specs.declared.reading.Part.{Part}
use Rattle.oncrpc_names.specs.declared.reading.Part.TheVariants as part
use Rattle.oncrpc_names.specs.Names.{IsPart, part_text}

-- The part before the first dot is the number that stands before a dot.
pub before_dot : (text p r rest : List ℕ) (n : ℕ) → HasNoDot p → text ≡ p ++ 46 ∷ r → n < 2 ^ 32
    → text ≡ decimal n ++ 46 ∷ rest → (p ≡ decimal n) × (r ≡ rest)
before_dot text p r rest n whole cut small same =
    same_cut p (decimal n) r rest whole (no_dot_decimal n (wide n small)) (sym cut ∙ same)

-- The word result is no number.
result_is_no_number : (n : ℕ) → n < 2 ^ 32 → decimal n ≢ codes "result"
result_is_no_number n h e =
    let digits : AllDigits 10 (decimal n) = (decimal_is_IsNumeral n (wide n h)).0.1 in
    let r_is_digit = digit_from_value 114 (subst (AllDigits 10) e digits).0 in
    omega (arith, r_is_digit)

-- A number's text is that argument's, and no other part's.
pub argument_is : (text : List ℕ) (k : ℕ) → k < 2 ^ 32 → text ≡ decimal k
    → ((n : ℕ) → n < 2 ^ 32 → text ≡ decimal n → k ≡ n)
    → (p : Part) → IsPart p → text ≡ part_text p → part.Argument k ≡ p
argument_is text k small is one (part.Argument n) h same = ap part.Argument (one n h same)
argument_is text k small is one part.Result h same = absurd (result_is_no_number k small (sym is ∙ same))
