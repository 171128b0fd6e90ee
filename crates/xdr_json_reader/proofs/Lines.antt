-- The last line of bytes that one more byte follows, and the lines and columns that bytes make.
use Rattle.std.proofs.Common.{◌≡◌, ℕ, ◌+◌, ◌<◌, List, [], ◌∷◌, ◌++◌, length, take, get_or, count_by, Bool, true, false}
use Rattle.std.proofs.Common.{◌||◌, ◌==◌, if◌then◌else◌, refl, ap, ◌∙◌, arith}
use Rattle.std.proofs.lemmas.Bool.{eq-eqb, ne_eqb}
use Rattle.std.proofs.lemmas.List.{take_more, length-append}
use Rattle.std.proofs.lemmas.List.Sums.{count_by_more_yes, count_by_more_no}
use Rattle.std.specs.List.{list_any}
use Rattle.xdr_json_reader.specs.Places.{last_line}

abbrev fed : List ℕ → Bool
fed bs = list_any (λ (c : ℕ). c == 10) bs

or-false : (b : Bool) → (b || false) ≡ b
or-false true = refl
or-false false = refl

or-true : (b : Bool) → (b || true) ≡ true
or-true true = refl
or-true false = refl

fed-other : (xs : List ℕ) (b : ℕ) → (b == 10) ≡ false → fed (xs ++ b ∷ []) ≡ fed xs
fed-other [] b h = ap (λ (t : Bool). t || false) h
fed-other (x ∷ xs) b h = ap (λ (t : Bool). (x == 10) || t) (fed-other xs b h)

fed-feed : (xs : List ℕ) (b : ℕ) → (b == 10) ≡ true → fed (xs ++ b ∷ []) ≡ true
fed-feed [] b h = ap (λ (t : Bool). t || false) h
fed-feed (x ∷ xs) b h = ap (λ (t : Bool). (x == 10) || t) (fed-feed xs b h) ∙ or-true (x == 10)

pub line-feed : (xs : List ℕ) (b : ℕ) → (b == 10) ≡ true → last_line (xs ++ b ∷ []) ≡ []
line-feed [] b h = ap (λ (t : Bool). if t || false then [] else b ∷ []) h
line-feed (x ∷ xs) b h =
    ap (λ (t : Bool). if t then last_line (xs ++ b ∷ []) else x ∷ (xs ++ b ∷ []))
    (ap (λ (t : Bool). (x == 10) || t) (fed-feed xs b h) ∙ or-true (x == 10))
    ∙ line-feed xs b h

pub line-other : (xs : List ℕ) (b : ℕ) → (b == 10) ≡ false → last_line (xs ++ b ∷ []) ≡ last_line xs ++ b ∷ []
line-other [] b h = ap (λ (t : Bool). if t || false then [] else b ∷ []) h
line-other (x ∷ xs) b h =
    ap (λ (t : Bool). if (x == 10) || t then last_line (xs ++ b ∷ []) else x ∷ (xs ++ b ∷ [])) (fed-other xs b h)
    ∙ ap (λ (l : List ℕ). if (x == 10) || fed xs then l else x ∷ (xs ++ b ∷ [])) (line-other xs b h)
    ∙ by_case ((x == 10) || fed xs)
  where
    by_case : (t : Bool) → (if t then last_line xs ++ b ∷ [] else x ∷ (xs ++ b ∷ []))
        ≡ (if t then last_line xs else x ∷ xs) ++ b ∷ []
    by_case true = refl
    by_case false = refl

abbrev lines : List ℕ → ℕ
lines bs = count_by (λ (c : ℕ). c == 10) bs

-- a line feed was passed
pub line_step : (text : List ℕ) (i line : ℕ) → i < length text → line ≡ 1 + lines (take i text)
    → get_or text i 0 ≡ 10
    → (line + 1 ≡ 1 + lines (take (i + 1) text)) × (1 ≡ 1 + length (last_line (take (i + 1) text)))
line_step text i line h l e =
    let is = eq-eqb (get_or text i 0) 10 e in
    let count = count_by_more_yes (λ (c : ℕ). c == 10) text i 0 h is in
    let last = ap (λ (bs : List ℕ). length (last_line bs)) (take_more text i 0 h)
    ∙ ap length (line-feed (take i text) (get_or text i 0) is) in
    (omega (arith, l, count), omega (arith, last))

-- another byte was passed
pub column_step : (text : List ℕ) (i line column : ℕ) → i < length text → line ≡ 1 + lines (take i text)
    → column ≡ 1 + length (last_line (take i text)) → (get_or text i 0 ≡ 10 → ⊥)
    → (line ≡ 1 + lines (take (i + 1) text)) × (column + 1 ≡ 1 + length (last_line (take (i + 1) text)))
column_step text i line column h l k e =
    let is = ne_eqb (get_or text i 0) 10 e in
    let count = count_by_more_no (λ (c : ℕ). c == 10) text i 0 h is in
    let last = ap (λ (bs : List ℕ). length (last_line bs)) (take_more text i 0 h)
    ∙ ap length (line-other (take i text) (get_or text i 0) is)
    ∙ length-append (last_line (take i text)) (get_or text i 0 ∷ []) in
    (omega (arith, l, count), omega (arith, k, last))
