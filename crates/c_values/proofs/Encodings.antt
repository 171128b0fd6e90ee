-- Bytes that are put into a buffer one behind the other.
use Rattle.std.proofs.Common.{◌≡◌, ℕ, ◌+◌, ◌≤◌, List, [], ◌∷◌, ◌++◌, length, take, drop, refl, ap, sym, ◌∙◌, subst}
use Rattle.std.proofs.Common.{arith, append-nil, append_assoc, length-append}
use Rattle.std.proofs.lemmas.List.{drop-drop}
use Rattle.std.proofs.Math.Seq.{take-append_seam, drop-append-add}
use Rattle.c_answers.specs.Buffers.{AreAtFront}

-- behind those that stand at the front
pub put_more : (old cur new front x : List ℕ) (at : ℕ) → at ≡ length front → AreAtFront front old cur
    → new ≡ take at cur ++ (x ++ drop (at + length x) cur) → AreAtFront (front ++ x) old new
put_more old cur new front x at here before e =
    let rest : List ℕ = drop (length front) old in
    let head : take at cur ≡ front =
    ap (λ (n : ℕ). take n cur) here ∙ ap (λ (l : List ℕ). take (length front) l) before
    ∙ take-append_seam front rest in
    let tail : drop (at + length x) cur ≡ drop (length (front ++ x)) old =
    ap (λ (n : ℕ). drop (n + length x) cur) here ∙ ap (λ (l : List ℕ). drop (length front + length x) l) before
    ∙ drop-append-add front rest (length x) ∙ drop-drop (length x) (length front) old
    ∙ ap (λ (n : ℕ). drop n old) (sym (length-append front x)) in
    e ∙ ap (λ (l : List ℕ). l ++ (x ++ drop (at + length x) cur)) head
    ∙ ap (λ (l : List ℕ). front ++ (x ++ l)) tail ∙ sym (append_assoc front x (drop (length (front ++ x)) old))

-- three of them, the first as it is lent
pub all_put : (old a b c lent first second third : List ℕ) (at to : ℕ) → lent ≡ a → at ≡ length a → to ≡ at + length b
    → first ≡ take 0 old ++ (lent ++ drop (0 + length lent) old)
    → second ≡ take at first ++ (b ++ drop (at + length b) first)
    → third ≡ take to second ++ (c ++ drop (to + length c) second)
    → AreAtFront (a ++ (b ++ c)) old third
all_put old a b c lent first second third at to same here there e f g =
    let one : AreAtFront a old first =
    subst (λ (x : List ℕ). AreAtFront x old first) same (put_more old old first [] lent 0 refl refl e) in
    let two : AreAtFront (a ++ b) old second = put_more old first second a b at here one f in
    let three : AreAtFront ((a ++ b) ++ c) old third =
    put_more old second third (a ++ b) c to (omega (arith, there, here, length-append a b)) two g in
    subst (λ (l : List ℕ). AreAtFront l old third) (append_assoc a b c) three
