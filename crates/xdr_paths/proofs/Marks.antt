-- A text of steps is read in one way.
use Rattle.std.proofs.Common.{◌≡◌, ℕ, ◌+◌, ◌<◌, ◌≤◌, ◌^◌, suc, zero, Bool, true, false, List, [], ◌∷◌, ◌++◌, length}
use Rattle.std.proofs.Common.{take, drop, get_or, refl, ap, sym, ◌∙◌, subst, nat_eq, arith, decimal, true≢false, ◌||◌}
use Rattle.std.proofs.Common.{append_assoc}
use Rattle.std.specs.Str.Parse.{AllDigits}
use Rattle.std.proofs.lemmas.Bool.Decides.{Decides-eqb}
use Rattle.std.proofs.lemmas.Fmt.{decimal_is_IsNumeral}
use Rattle.std.proofs.lemmas.Str.Parse.{digit_from_value}
use Rattle.xdr_paths.specs.Nodes.{Step, to_field, to_item}
use Rattle.xdr_paths.specs.Paths.{is_mark, HasNoMark, IsStep, first_text}
use Rattle.xdr_paths.specs.Private.Steps.{IsEndOrMarked}

is_not : (c m : ℕ) → (c ≡ m → ⊥) → nat_eq c m ≡ false
is_not c m h = by (nat_eq c m) refl
  where
    by : (b : Bool) → nat_eq c m ≡ b → b ≡ false
    by false e = refl
    by true e = absurd (h ((Decides-eqb c m).0 e))

digit_is_no_mark : (c : ℕ) → 48 ≤ c → c ≤ 57 → is_mark c ≡ false
digit_is_no_mark c low high =
    let dot : nat_eq c 46 ≡ false = is_not c 46 (λ e. omega arith) in
    let opens : nat_eq c 91 ≡ false = is_not c 91 (λ e. omega arith) in
    let closes : nat_eq c 93 ≡ false = is_not c 93 (λ e. omega arith) in
    ap (λ (b : Bool). b || (nat_eq c 91 || nat_eq c 93)) dot
    ∙ ap (λ (b : Bool). b || nat_eq c 93) opens ∙ closes

digits_plain : (ds : List ℕ) → AllDigits 10 ds → HasNoMark ds
digits_plain [] d = tt
digits_plain (c ∷ cs) d =
    let k = digit_from_value c d.0 in
    (digit_is_no_mark c (omega (arith, k)) (omega (arith, k)), digits_plain cs d.1)

-- A decimal number has no mark.
pub plain_decimal : (n : ℕ) → n < 2 ^ 32 → HasNoMark (decimal n)
plain_decimal n h = digits_plain (decimal n) (decimal_is_IsNumeral n (omega arith)).0.1

abbrev first : List ℕ → ℕ
first [] = 0
first (x ∷ xs) = x

abbrev rest : List ℕ → List ℕ
rest [] = []
rest (x ∷ xs) = xs

-- What stands before the first mark, and what stands from it on, are one.
pub same_cut : (a b r s : List ℕ) → HasNoMark a → HasNoMark b → IsEndOrMarked r → IsEndOrMarked s → a ++ r ≡ b ++ s
    → (a ≡ b) × (r ≡ s)
same_cut [] [] r s h k m n e = (refl, e)
same_cut [] (y ∷ b) [] s h k m n e = absurd (cc)
same_cut [] (y ∷ b) (x ∷ r) s h k m n e =
    absurd (true≢false (sym m ∙ ap is_mark (ap first e) ∙ k.0))
same_cut (x ∷ a) [] r [] h k m n e = absurd (cc)
same_cut (x ∷ a) [] r (y ∷ s) h k m n e =
    absurd (true≢false (sym n ∙ sym (ap is_mark (ap first e)) ∙ h.0))
same_cut (x ∷ a) (y ∷ b) r s h k m n e =
    let w = same_cut a b r s h.1 k.1 m n (ap rest e) in
    let front : x ≡ y = ap first e in
    ((λ j. front j ∷ w.0 j), w.1)

-- One more byte that is no mark.
pub plain_more : (xs : List ℕ) (i : ℕ) → i < length xs → is_mark (get_or xs i 0) ≡ false → HasNoMark (take i xs)
    → HasNoMark (take (i + 1) xs)
plain_more [] i lt at nd = absurd (omega (arith, lt))
plain_more (x ∷ xs) zero lt at nd = (at, tt)
plain_more (x ∷ xs) (suc i) lt at nd =
    let e : suc (i + 1) ≡ suc i + 1 = omega arith in
    subst (λ (k : ℕ). HasNoMark (take k (x ∷ xs))) e (nd.0, plain_more xs i (omega (arith, lt)) at nd.1)

pub plain_all : (xs : List ℕ) → HasNoMark (take (length xs) xs) → HasNoMark xs
plain_all [] h = h
plain_all (x ∷ xs) h = (h.0, plain_all xs h.1)

-- From a mark on a text begins with it.
pub marked_from : (xs : List ℕ) (i : ℕ) → is_mark (get_or xs i 0) ≡ true → IsEndOrMarked (drop i xs)
marked_from [] zero at = tt
marked_from [] (suc i) at = tt
marked_from (x ∷ xs) zero at = at
marked_from (x ∷ xs) (suc i) at = marked_from xs i at

pub no_name : (xs : List ℕ) → length xs ≡ 0 → xs ≡ []
no_name [] e = refl
no_name (x ∷ xs) e = absurd (omega (arith, e))

-- What begins with an opening bracket is an index first, and no name.
pub index_only : (path index : List ℕ) (A : Step → List ℕ → Type 0) → path ≡ 91 ∷ index
    → ((i : ℕ) (rest : List ℕ) → IsStep (to_item i) → index ≡ decimal i ++ 93 ∷ rest → A (to_item i) rest)
    → (step : Step) (rest : List ℕ) → IsStep step → IsEndOrMarked rest → path ≡ first_text step ++ rest
    → A step rest
index_only path index A begins then (to_field name) rest is marked e =
    let w = same_cut [] name (91 ∷ index) rest tt is.1 refl marked (sym begins ∙ e) in
    absurd (is.0 (sym w.0))
index_only path index A begins then (to_item i) rest is marked e =
    let same : 91 ∷ index ≡ 91 ∷ ((decimal i ++ 93 ∷ []) ++ rest) = sym begins ∙ e in
    let behind : index ≡ (decimal i ++ 93 ∷ []) ++ rest = cc in
    then i rest is (behind ∙ append_assoc (decimal i) (93 ∷ []) rest)

pub no_elements : {A : Type 0} (xs : List A) → length xs ≡ 0 → xs ≡ []
no_elements [] e = refl
no_elements (x ∷ xs) e = absurd (omega (arith, e))

-- A text that is not empty.
pub not_empty : {A : Type 0} (xs : List A) (b : Bool) → b ≡ nat_eq (length xs) 0 → b ≡ false → xs ≡ [] → ⊥
not_empty {A = A} xs b is none e = true≢false (sym (is ∙ ap (λ (ys : List A). nat_eq (length ys) 0) e) ∙ none)

-- A text that is empty.
pub is_empty : {A : Type 0} (xs : List A) (b : Bool) → b ≡ nat_eq (length xs) 0 → b ≡ true → xs ≡ []
is_empty [] b is none = refl
is_empty (x ∷ xs) b is none =
    let z : length (x ∷ xs) ≡ 0 = (Decides-eqb (length (x ∷ xs)) 0).0 (sym is ∙ none) in
    absurd (omega (arith, z))
