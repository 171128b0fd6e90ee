-- Reading one after the other, as a loop does.
use Rattle.std.proofs.Common.{◌≡◌, ℕ, suc, ◌-◌, ◌+◌, ◌<◌, Bool, true, false, List, [], ◌∷◌, ◌++◌, Option, Some, None}
use Rattle.std.proofs.Common.{refl, sym, ap, ◌∙◌, append_assoc, arith}
use Rattle.xdr_grammar.specs.declared.misread.Misread.{Misread}
use Rattle.xdr_grammar.specs.declared.misread.Misread.TheVariants as misread
use Rattle.xdr_tokens.specs.Tokens.{Lexeme}
use Rattle.xdr_grammar.specs.Outline.{Outline}
use Rattle.xdr_grammar.specs.Private.Parsing.{MisreadsRightly}
use Rattle.xdr_tokens.specs.Options.{◌>>=◌}
use Rattle.xdr_grammar.specs.Private.Reading.{Reader, repeat}

-- where one reading gives nothing, another gives nothing
pub fails_along : {A B : Type 0} (e : Misread) (r : Option A) (t : Option B) → (r ≡ None → t ≡ None)
    → MisreadsRightly e r
    → MisreadsRightly e t
fails_along misread.NoMemory r t f h = tt
fails_along (misread.Token why left) r t f h = f h

-- what was read before, and what is still read
abbrev pub with_front : {A : Type 0} → List A → Option (List A × Outline × List Lexeme)
    → Option (List A × Outline × List Lexeme)
with_front front read = read >>= λ x. Some (front ++ x.0, x.1, x.2)

regroup : {A : Type 0} (front : List A) (a : A) (read : Option (List A × Outline × List Lexeme))
    → with_front front (read >>= λ x. Some (a ∷ x.0, x.1, x.2)) ≡ with_front (front ++ a ∷ []) read
regroup {A = A} front a (Some x) = ap (λ (xs : List A). Some (xs, x.1, x.2)) (simp append_assoc)
regroup front a None = refl

module _ {A : Type 0} (step : Reader (A × Bool)) (front : List A) (count i : ℕ) (o : Outline) (ts : List Lexeme)
    (total : Option (List A × Outline × List Lexeme)) (lt : i < count)
    (so_far : with_front front (repeat step (count - i) o ts) ≡ total) where
  pub stops : step o ts ≡ None → total ≡ None
  unfolding repeat
  stops h =
      let k : count - i ≡ suc (count - (i + 1)) = omega arith in
      let one : with_front front (repeat step (count - i) o ts) ≡ None = rw (k, h) refl in
      sym so_far ∙ one

  pub ends : (a : A) (more : Bool) (o2 : Outline) (after : List Lexeme) → step o ts ≡ Some ((a, more), o2, after)
      → more ≡ false → total ≡ Some (front ++ a ∷ [], o2, after)
  unfolding repeat
  ends a more o2 after h last =
      let k : count - i ≡ suc (count - (i + 1)) = omega arith in
      let one : with_front front (repeat step (count - i) o ts) ≡ Some (front ++ a ∷ [], o2, after) = rw
      (k, h, last) refl in
      sym so_far ∙ one

  pub goes_on : (a : A) (more : Bool) (o2 : Outline) (after : List Lexeme) → step o ts ≡ Some ((a, more), o2, after)
      → more ≡ true → with_front (front ++ a ∷ []) (repeat step (count - (i + 1)) o2 after) ≡ total
  unfolding repeat
  goes_on a more o2 after h on =
      let k : count - i ≡ suc (count - (i + 1)) = omega arith in
      let one : with_front front (repeat step (count - i) o ts) ≡ with_front (front ++ a ∷ [])
      (repeat step (count - (i + 1)) o2 after) = rw (k, h, on)
      (regroup front a (repeat step (count - (i + 1)) o2 after)) in
      sym one ∙ so_far
