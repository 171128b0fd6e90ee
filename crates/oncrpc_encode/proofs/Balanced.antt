-- What is balanced is passed.
use Rattle.std.proofs.Common.{◌≡◌, ◌≢◌, ℕ, suc, zero, ◌+◌, ◌-◌, nat_eq, Bool, true, false, List, [], ◌∷◌, ◌++◌}
use Rattle.std.proofs.Common.{length, None, Some, refl}
use Rattle.std.proofs.Common.{ap, sym, ◌∙◌, subst, append_assoc, add-one, length-append, arith, if◌then◌else◌}
use Rattle.std.proofs.lemmas.Bool.Decides.{Decides-eqb}
use Rattle.oncrpc_encode.specs.declared.mark.Mark.{Mark}
use Rattle.oncrpc_encode.specs.declared.mark.Mark.TheVariants as mark
use Rattle.oncrpc_encode.specs.Arrays.{IsBalanced, IsContent, is_single, mark_of}
use Rattle.oncrpc_encode.specs.Private.Scanned.{after_plain, after_quoted, end_from, escaped, plain, quoted}
use Rattle.oncrpc_encode.proofs.Stepping.{at_place, goes_on}

stays : (d : ℕ) (m : Mark) → m ≢ mark.Quote → m ≢ mark.Backslash → after_quoted d m ≡ quoted d
stays d mark.Quote nq nb = absurd (nq refl)
stays d mark.Backslash nq nb = absurd (nb refl)
stays d mark.Comma nq nb = refl
stays d mark.Opening nq nb = refl
stays d mark.Closing nq nb = refl
stays d mark.Other nq nb = refl

-- a string
pub content_ends : {s : List ℕ} → IsContent s → (at d c : ℕ) (rest : List ℕ) → mark_of c ≡ mark.Quote
    → end_from at (quoted d) (s ++ c ∷ rest) ≡ end_from (at + length s + 1) (plain d) rest
content_ends IsContent.nothing at d c rest q =
    goes_on at (quoted d) (plain d) c rest mark.Quote q refl
    ∙ at_place (at + 1) (at + 0 + 1) (plain d) rest (omega arith)
content_ends (IsContent.byte b bs nq nb h) at d c rest q =
    goes_on at (quoted d) (quoted d) b (bs ++ c ∷ rest) (mark_of b) refl (ap Some (stays d (mark_of b) nq nb))
    ∙ content_ends h (at + 1) d c rest q
    ∙ at_place (at + 1 + length bs + 1) (at + length (b ∷ bs) + 1) (plain d) rest (omega arith)
content_ends (IsContent.escape b e bs is h) at d c rest q =
    goes_on at (quoted d) (escaped d) b (e ∷ (bs ++ c ∷ rest)) mark.Backslash is refl
    ∙ goes_on (at + 1) (escaped d) (quoted d) e (bs ++ c ∷ rest) (mark_of e) refl refl
    ∙ content_ends h (at + 1 + 1) d c rest q
    ∙ at_place (at + 1 + 1 + length bs + 1) (at + length (b ∷ e ∷ bs) + 1) (plain d) rest (omega arith)

is_above : (d : ℕ) → nat_eq (suc d) 0 ≡ false
is_above d = by (nat_eq (suc d) 0) refl
  where
    by : (b : Bool) → nat_eq (suc d) 0 ≡ b → b ≡ false
    by false e = refl
    by true e = let none : suc d ≡ 0 = (Decides-eqb (suc d) 0).0 e in absurd (omega arith)

-- within brackets a comma may stand
pub kept : (d : ℕ) → after_plain (suc d) mark.Comma ≡ Some (plain (suc d))
kept d = ap (λ (b : Bool). if b then None else Some (plain (suc d))) (is_above d)

passes : (comma : Bool) (d : ℕ) → (comma ≡ true → (e : ℕ) × (d ≡ suc e)) → (m : Mark) → is_single comma m ≡ true
    → after_plain d m ≡ Some (plain d)
passes comma d deep mark.Quote one = cc
passes comma d deep mark.Backslash one = refl
passes comma d deep mark.Comma one =
    let below = deep one in
    subst (λ (n : ℕ). after_plain n mark.Comma ≡ Some (plain n)) (sym below.1) (kept below.0)
passes comma d deep mark.Opening one = cc
passes comma d deep mark.Closing one = cc
passes comma d deep mark.Other one = refl

pub closes : (d : ℕ) → after_plain (suc d) mark.Closing ≡ Some (plain d)
closes d =
    let one : suc d - 1 ≡ d = omega arith in
    ap (λ (b : Bool). if b then None else Some (plain (suc d - 1))) (is_above d) ∙ ap (λ (n : ℕ). Some (plain n)) one

pub balanced_ends : {comma : Bool} {bs : List ℕ} → IsBalanced comma bs → (at d : ℕ) (rest : List ℕ)
    → (comma ≡ true → (e : ℕ) × (d ≡ suc e))
    → end_from at (plain d) (bs ++ rest) ≡ end_from (at + length bs) (plain d) rest
balanced_ends (IsBalanced.nothing comma) at d rest deep = at_place at (at + 0) (plain d) rest (omega arith)
balanced_ends (IsBalanced.byte comma b bs one h) at d rest deep =
    goes_on at (plain d) (plain d) b (bs ++ rest) (mark_of b) refl (passes comma d deep (mark_of b) one)
    ∙ balanced_ends h (at + 1) d rest deep
    ∙ at_place (at + 1 + length bs) (at + length (b ∷ bs)) (plain d) rest (omega arith)
balanced_ends (IsBalanced.string comma b content c bs q own r h) at d rest deep =
    goes_on at (plain d) (quoted d) b ((content ++ c ∷ bs) ++ rest) mark.Quote q refl
    ∙ ap (end_from (at + 1) (quoted d)) (append_assoc content (c ∷ bs) rest)
    ∙ content_ends own (at + 1) d c (bs ++ rest) r
    ∙ balanced_ends h (at + 1 + length content + 1) d rest deep
    ∙ at_place (at + 1 + length content + 1 + length bs) (at + length (b ∷ (content ++ c ∷ bs))) (plain d) rest
    (omega (arith, length-append content (c ∷ bs)))
balanced_ends (IsBalanced.brackets comma b inner c bs o own r h) at d rest deep =
    goes_on at (plain d) (plain (suc d)) b ((inner ++ c ∷ bs) ++ rest) mark.Opening o
    (ap (λ (n : ℕ). Some (plain n)) (add-one d))
    ∙ ap (end_from (at + 1) (plain (suc d))) (append_assoc inner (c ∷ bs) rest)
    ∙ balanced_ends own (at + 1) (suc d) (c ∷ (bs ++ rest)) (λ e. (d, refl))
    ∙ goes_on (at + 1 + length inner) (plain (suc d)) (plain d) c (bs ++ rest) mark.Closing r (closes d)
    ∙ balanced_ends h (at + 1 + length inner + 1) d rest deep
    ∙ at_place (at + 1 + length inner + 1 + length bs) (at + length (b ∷ (inner ++ c ∷ bs))) (plain d) rest
    (omega (arith, length-append inner (c ∷ bs)))
