-- The tokens of a text, computed.
use Rattle.std.proofs.Common.{◌≡◌, ◌≤◌, ℕ, zero, suc, List, [], ◌∷◌, length, Option, Some, None, refl, sym, ap, ◌∙◌}
use Rattle.std.proofs.Common.{arith, subst}
use Rattle.std.proofs.Common.{Result, Ok, Err, IfOk, IfErr, Vec, Global}
use Rattle.std.specs.Prelude.{option_and_then, is_ok, is_some, true, false}
use Rattle.xdr_tokens.specs.declared.token.Token.{Token}
use Rattle.xdr_tokens.specs.declared.fault.Fault.{Fault}
use Rattle.xdr_tokens.specs.declared.fault.Fault.TheVariants as fault
use Rattle.xdr_tokens.specs.Due.{RefusesRightly, Gives}
use Rattle.xdr_tokens.specs.Tokens.{Lexeme, lexemes}
use Rattle.xdr_tokens.specs.Text.{Piece, Cuts, Tokens, token_of, with_token}
use Rattle.xdr_tokens.specs.Private.Front.{piece_at}
use Rattle.xdr_tokens.proofs.Options.{some_is, some_is_not, bind_some}
use Rattle.xdr_tokens.proofs.Pieces.{piece_again}
use Rattle.xdr_tokens.proofs.Whole.{shorter, more_tokens, all_done}

-- the tokens of a text of at most so many bytes
unfoldable pub cut : ℕ → List ℕ → Option (List Lexeme)
cut zero [] = Some []
cut zero (b ∷ bs) = None
cut (suc n) [] = Some []
cut (suc n) (b ∷ bs) =
    option_and_then (λ x. option_and_then (λ ts. Some (with_token x.0 ts)) (cut n x.1)) (piece_at (b ∷ bs))

cut_again : (n : ℕ) (ps : List Piece) (bs : List ℕ) (ts : List Lexeme) → length bs ≤ n → Cuts ps bs ts
    → cut n bs ≡ Some ts
unfolding cut
cut_again zero [] bs ts le c = rw (c.0, c.1) refl
cut_again (suc n) [] bs ts le c = rw (c.0, c.1) refl
cut_again zero (p ∷ ps) bs ts le c =
    let at : piece_at bs ≡ Some (token_of p, c.0) = ap piece_at c.2 ∙ piece_again p c.0 c.3 in
    absurd (omega (arith, le, shorter bs (token_of p, c.0) at))
cut_again (suc n) (p ∷ ps) [] ts le c =
    let at : piece_at [] ≡ Some (token_of p, c.0) = ap piece_at c.2 ∙ piece_again p c.0 c.3 in
    absurd (omega (arith, shorter [] (token_of p, c.0) at))
cut_again (suc n) (p ∷ ps) (b ∷ bs) ts le c =
    let at : piece_at (b ∷ bs) ≡ Some (token_of p, c.0) = ap piece_at c.2 ∙ piece_again p c.0 c.3 in
    let rest : cut n c.0 ≡ Some c.1 = cut_again n ps c.0 c.1
    (omega (arith, le, shorter (b ∷ bs) (token_of p, c.0) at)) c.5 in
    rw (at, rest, c.4) refl

pub cut_is : (text : List ℕ) (ts : List Lexeme) → Tokens text ts → cut (length text) text ≡ Some ts
cut_is text ts t = cut_again (length text) t.0 text ts (omega arith) t.1

pub reports_tokens : (text : List ℕ) (ts : List Lexeme) (r : Result (Vec Token Global) Fault)
    → cut (length text) text ≡ Some ts → IfOk r (λ v. Tokens text (lexemes v.items))
    → IfOk r (λ v. lexemes v.items ≡ ts)
reports_tokens text ts (Ok v) is found = some_is (lexemes v.items) ts (sym (cut_is text (lexemes v.items) found) ∙ is)
reports_tokens text ts (Err e) is found = tt

pub no_tokens : (text : List ℕ) (r : Result (Vec Token Global) Fault) → cut (length text) text ≡ None
    → IfOk r (λ v. Tokens text (lexemes v.items)) → is_ok r ≡ false
no_tokens text (Ok v) none found = absurd
    (some_is_not (lexemes v.items) (sym (cut_is text (lexemes v.items) found) ∙ none))
no_tokens text (Err e) none found = refl

-- and they are its tokens
pub cut_found : (n : ℕ) (bs : List ℕ) (ts : List Lexeme) → cut n bs ≡ Some ts → Tokens bs ts
unfolding cut
cut_found zero [] ts e = subst (λ (x : List Lexeme). Tokens [] x) (some_is [] ts e) (all_done [] refl)
cut_found zero (b ∷ bs) ts e = absurd cc
cut_found (suc n) [] ts e = subst (λ (x : List Lexeme). Tokens [] x) (some_is [] ts e) (all_done [] refl)
cut_found (suc n) (b ∷ bs) ts e =
    let p = bind_some (piece_at (b ∷ bs)) _ ts e in
    let r = bind_some (cut n p.0.1) _ ts p.2 in
    subst (λ (z : List Lexeme). Tokens (b ∷ bs) z) (some_is _ ts r.2)
    (more_tokens (b ∷ bs) p.0 p.1 r.0 (cut_found n p.0.1 r.0 r.1))

-- what is there
pub present : {A : Type 0} (o : Option A) → is_some o ≡ true → (x : A) × (o ≡ Some x)
present (Some x) e = (x, refl)
present None e = absurd cc

-- where something is due, an allocation failure alone refuses it
pub no_refusal : {A : Type 0} (e : Fault) (d : A) → RefusesRightly e (Some d) → e ≡ fault.NoMemory
no_refusal fault.NoMemory d h = refl
no_refusal (fault.Refused wrong left) d h = absurd (some_is_not d h)

pub memory_of_tokens : (text : List ℕ) (r : Result (Vec Token Global) Fault)
    → is_some (cut (length text) text) ≡ true
    → ((ts : List Lexeme) → Tokens text ts → Gives (λ (v : Vec Token Global). lexemes v.items) r (Some ts))
    → IfErr r (λ e. e ≡ fault.NoMemory)
memory_of_tokens text (Ok v) is only = tt
memory_of_tokens text (Err e) is only =
    let p = present (cut (length text) text) is in
    no_refusal e p.0 (only p.0 (cut_found (length text) text p.0 p.1))
