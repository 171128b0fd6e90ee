-- What stands at a place of a text.
use Rattle.std.proofs.Common.{◌≡◌, ℕ, suc, zero, ◌+◌, List, [], ◌∷◌, ◌++◌, length, drop, get_or, refl, ap, sym, ◌∙◌}
use Rattle.std.proofs.Common.{arith}
use Rattle.std.proofs.lemmas.List.{get_or-drop}
use Rattle.std.proofs.Math.Seq.{drop-nil}

pub one_on : (text : List ℕ) (at x : ℕ) (zs : List ℕ) → drop at text ≡ x ∷ zs → drop (at + 1) text ≡ zs
one_on [] at x zs e = let none : [] ≡ x ∷ zs = sym (drop-nil at) ∙ e in cc
one_on (y ∷ ys) zero x zs e = cc
one_on (y ∷ ys) (suc n) x zs e =
    let place : suc n + 1 ≡ suc (n + 1) = omega arith in
    ap (λ (k : ℕ). drop k (y ∷ ys)) place ∙ one_on ys n x zs e

pub cut_at : (text : List ℕ) (at : ℕ) (xs ys : List ℕ) → drop at text ≡ xs ++ ys → drop (at + length xs) text ≡ ys
cut_at text at [] ys e =
    let place : at + 0 ≡ at = omega arith in ap (λ (k : ℕ). drop k text) place ∙ e
cut_at text at (x ∷ xs) ys e =
    let place : at + length (x ∷ xs) ≡ at + 1 + length xs = omega arith in
    ap (λ (k : ℕ). drop k text) place ∙ cut_at text (at + 1) xs ys (one_on text at x (xs ++ ys) e)

pub get_at : (text : List ℕ) (at x : ℕ) (zs : List ℕ) → drop at text ≡ x ∷ zs → get_or text at 0 ≡ x
get_at text at x zs e =
    let place : at ≡ at + 0 = omega arith in
    ap (λ (k : ℕ). get_or text k 0) place ∙ sym (get_or-drop at text 0 0)
    ∙ ap (λ (z : List ℕ). get_or z 0 0) e
