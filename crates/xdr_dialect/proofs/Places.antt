-- Tokens with their places and without.
use Rattle.std.proofs.Common.{◌≡◌, ℕ, suc, zero, ◌-◌, ◌<◌, List, [], ◌∷◌, ◌++◌, length}
use Rattle.std.proofs.Common.{refl, sym, ap, ◌∙◌, arith, append_assoc, ◌≤◌, take, drop, slice_index_or}
use Rattle.std.proofs.lemmas.List.{map-append, append-nil}
use Rattle.std.proofs.Math.Seq.{take-length}
use Rattle.xdr_tokens.specs.declared.token.Token.{Token}
use Rattle.xdr_tokens.specs.Tokens.{Lexeme, lexeme, lexemes}
use Rattle.xdr_dialect.specs.declared.scope.Scope.{Scope}
use Rattle.xdr_dialect.specs.declared.scope.Scope.TheVariants as scope
use Rattle.xdr_dialect.specs.declared.turn.Replaced.{Replaced}
use Rattle.xdr_dialect.specs.Rewriting.{turn, rewritten_from, rewritten}
use Rattle.xdr_dialect.specs.Library.{library}
use Rattle.xdr_dialect.specs.Dialect.{Placed, placed, left_of, all_placed, unplaced, standing_at, rewritten_places}
use Rattle.xdr_dialect.specs.Dialect.{meant, meant_places}
use Rattle.xdr_dialect.specs.Private.Steps.{Stands, tokens_of}

-- tokens with their places are those tokens
pub unplaced_placed : (ts : List Token) → unplaced (all_placed ts) ≡ lexemes ts
unplaced_placed [] = refl
unplaced_placed (t ∷ ts) = ap (λ (l : List Lexeme). lexeme t ∷ l) (unplaced_placed ts)

-- tokens at one place are those tokens
pub unplaced_standing : (left : ℕ) (ts : List Lexeme) → unplaced (standing_at left ts) ≡ ts
unplaced_standing left [] = refl
unplaced_standing left (t ∷ ts) = ap (λ (l : List Lexeme). t ∷ l) (unplaced_standing left ts)

-- some, and others behind them
pub unplaced_append : (ps qs : List Placed) → unplaced (ps ++ qs) ≡ unplaced ps ++ unplaced qs
unplaced_append ps qs = map-append (λ (p : Placed). p.token) ps qs

-- which tokens come does not hang on places
pub erased : (s : Scope) (n : ℕ) (ps : List Placed)
    → unplaced (rewritten_places s n ps) ≡ rewritten_from s n (unplaced ps)
unfolding rewritten_places rewritten_from
erased s n [] = refl
erased s zero (p ∷ ps) =
    let t = turn s p.token (unplaced ps) in
    unplaced_append (standing_at p.left t.out) (rewritten_places t.scope t.skip ps)
    ∙ (ap (λ (l : List Lexeme). l ++ unplaced (rewritten_places t.scope t.skip ps)) (unplaced_standing p.left t.out)
    ∙ ap (λ (l : List Lexeme). t.out ++ l) (erased t.scope t.skip ps))
erased s (suc n) (p ∷ ps) = erased s n ps

-- the same with the library
pub meant_erased : (b : ℕ) (ps : List Placed) → unplaced (meant_places b ps) ≡ meant (unplaced ps)
meant_erased b ps =
    let defined = library (rewritten (unplaced ps)) in
    unplaced_append (standing_at b defined) (rewritten_places scope.Elsewhere 0 ps)
    ∙ (ap (λ (l : List Lexeme). l ++ unplaced (rewritten_places scope.Elsewhere 0 ps)) (unplaced_standing b defined)
    ∙ ap (λ (l : List Lexeme). defined ++ l) (erased scope.Elsewhere 0 ps))

-- what such tokens are, whatever their places
pub meant_lexemes : (b : ℕ) (ts us : List Token) → all_placed us ≡ meant_places b (all_placed ts)
    → lexemes us ≡ meant (lexemes ts)
meant_lexemes b ts us e =
    sym (unplaced_placed us) ∙ (ap unplaced e ∙ (meant_erased b (all_placed ts) ∙ ap meant (unplaced_placed ts)))

-- the same but for the library
pub rewritten_lexemes : (ts us : List Token) → all_placed us ≡ rewritten_places scope.Elsewhere 0 (all_placed ts)
    → lexemes us ≡ rewritten (lexemes ts)
rewritten_lexemes ts us e =
    sym (unplaced_placed us) ∙ (ap unplaced e
    ∙ (erased scope.Elsewhere 0 (all_placed ts) ∙ ap rewritten (unplaced_placed ts)))

-- a token that goes with what precedes it
pub skip_one : (s : Scope) (n : ℕ) (t : Token) (ts rest : List Token) → rest ≡ t ∷ ts → 0 < n
    → rewritten_places s n (all_placed rest) ≡ rewritten_places s (n - 1) (all_placed ts)
unfolding rewritten_places
skip_one s zero t ts rest e lt = absurd (omega arith)
skip_one s (suc n) t ts rest e lt =
    let one : suc n - 1 ≡ n = omega arith in
    rw (e, one) refl

-- a token that something stands in place of
pub rewrite_one : (s : Scope) (n : ℕ) (t : Token) (ts rest items : List Token) (r : Replaced) → rest ≡ t ∷ ts → n ≡ 0
    → Stands r (turn s (lexeme t) (lexemes ts)) (left_of t)
    → all_placed items ++ rewritten_places s n (all_placed rest)
    ≡ all_placed (items ++ tokens_of r.out) ++ rewritten_places r.scope r.skip (all_placed ts)
unfolding rewritten_places
rewrite_one s n t ts rest items r e z is =
    let behind = rewritten_places r.scope r.skip (all_placed ts) in
    rw (e, z, unplaced_placed ts, ← is.out, ← is.scope, ← is.skip)
    (sym (append_assoc (all_placed items) (all_placed (tokens_of r.out)) behind)
    ∙ ap (λ (l : List Placed). l ++ behind) (sym (map-append placed items (tokens_of r.out))))

-- the end
pub rewrite_none : (s : Scope) (n : ℕ) (rest items : List Token) → length rest ≡ 0
    → all_placed items ++ rewritten_places s n (all_placed rest) ≡ all_placed items
unfolding rewritten_places
rewrite_none s n [] items z = append-nil (all_placed items)
rewrite_none s n (t ∷ ts) items z = absurd (omega arith)

abbrev placing_at : (left : ℕ) → Lexeme → Placed
placing_at left t = record { token = t; left = left }

-- some at one place, and others
pub standing_more : (left : ℕ) (f g h : List Placed) (xs ys : List Lexeme)
    → g ≡ f ++ standing_at left xs → h ≡ g ++ standing_at left ys → h ≡ f ++ standing_at left (xs ++ ys)
standing_more left f g h xs ys d e =
    e ∙ (ap (λ (l : List Placed). l ++ standing_at left ys) d
    ∙ (append_assoc f (standing_at left xs) (standing_at left ys)
    ∙ ap (λ (l : List Placed). f ++ l) (sym (map-append (placing_at left) xs ys))))

-- the tokens behind the library's definitions
pub meant_whole : (b : ℕ) (ts body defined : List Token)
    → all_placed body ≡ rewritten_places scope.Elsewhere 0 (all_placed ts) → lexemes body ≡ rewritten (lexemes ts)
    → all_placed defined ≡ standing_at b (library (lexemes body))
    → all_placed (defined ++ body) ≡ meant_places b (all_placed ts)
meant_whole b ts body defined places same lib =
    map-append placed defined body
    ∙ (ap (λ (l : List Placed). l ++ all_placed body) (lib
    ∙ ap (λ (l : List Lexeme). standing_at b (library l)) (same ∙ ap rewritten (sym (unplaced_placed ts))))
    ∙ ap (λ (l : List Placed). standing_at b (library (rewritten (unplaced (all_placed ts)))) ++ l) places)

-- the same without places
pub lexemes_whole : (b : ℕ) (ts body defined us : List Token) → us ≡ defined ++ body
    → all_placed body ≡ rewritten_places scope.Elsewhere 0 (all_placed ts) → lexemes body ≡ rewritten (lexemes ts)
    → all_placed defined ≡ standing_at b (library (lexemes body)) → lexemes us ≡ meant (lexemes ts)
lexemes_whole b ts body defined us all places same lib =
    meant_lexemes b ts us (ap all_placed all ∙ meant_whole b ts body defined places same lib)

-- what is in front of tokens, and what follows it
pub front_token : (ts : List Token) (d : Token) → 1 ≤ length ts
    → ts ≡ slice_index_or ts 0 d ∷ take (length ts - 1) (drop 1 ts)
front_token [] d h = absurd (omega arith)
front_token (t ∷ ts) d h =
    let e : suc (length ts) - 1 ≡ length ts = omega arith in
    rw e (ap (λ (l : List Token). t ∷ l) (sym (take-length ts)))

pub ruleset placing = (map-append)

pub ruleset stepping = (rewrite_none, rewritten_lexemes)

pub ruleset meaning = (meant_whole, meant_lexemes)
