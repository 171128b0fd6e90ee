-- From one piece to all of them.
use Rattle.std.proofs.Common.{◌≡◌, ℕ, ◌<◌, ◌≤◌, List, [], ◌∷◌, ◌++◌, length, Option, Some, None, refl, sym, ap, subst}
use Rattle.std.proofs.Common.{◌∙◌, arith, append_assoc}
use Rattle.std.proofs.lemmas.List.{length-append, nil_from_length}
use Rattle.xdr_tokens.specs.declared.fault.Fault.{Fault}
use Rattle.xdr_tokens.specs.declared.fault.Fault.TheVariants as fault
use Rattle.xdr_tokens.specs.Tokens.{Lexeme}
use Rattle.xdr_tokens.specs.Due.{RefusesRightly}
use Rattle.xdr_tokens.specs.Refusals.{IsTokenFault}
use Rattle.xdr_tokens.specs.Private.Front.{piece_at}
use Rattle.xdr_tokens.specs.Text.{Piece, Blank, Comment, Run, Constant, Single, spelling, MayPrecede, token_of}
use Rattle.xdr_tokens.specs.Text.{with_token}
use Rattle.xdr_tokens.specs.Text.{Cuts, Tokens}
use Rattle.xdr_tokens.proofs.Options.{some_is, some_is_not}
use Rattle.xdr_tokens.proofs.Pieces.{one_byte, piece_found, piece_again}

longer : (p : Piece) (rest : List ℕ) → MayPrecede p rest → length rest < length (spelling p rest)
longer (Blank b) rest h = omega arith
longer (Comment inside) rest h = omega (arith, length-append inside (42 ∷ 47 ∷ rest))
longer (Run []) rest h = absurd h.0
longer (Run (b ∷ run)) rest h = omega (arith, length-append run rest)
longer (Constant [] v) rest h = absurd h.0
longer (Constant (b ∷ run) v) rest h = omega (arith, length-append run rest)
longer (Single m) rest h = rw (one_byte m) (omega arith)

pub shorter : (bs : List ℕ) (y : Option Lexeme × List ℕ) → piece_at bs ≡ Some y → length y.1 < length bs
shorter bs y e =
    let p = piece_found bs y e in
    rw p.spelled (longer p.piece y.1 p.represents)

-- a piece in front of tokens
pub more_tokens : (bs : List ℕ) (y : Option Lexeme × List ℕ) → piece_at bs ≡ Some y → (ts : List Lexeme) → Tokens y.1 ts
    → Tokens bs (with_token y.0 ts)
more_tokens bs y e ts t =
    let p = piece_found bs y e in
    (p.piece ∷ t.0, (y.1, ts, p.spelled, p.represents, ap (λ (x : Option Lexeme). with_token x ts) p.token, t.1))

-- the tokens begin with the piece's
pub less_tokens : (bs : List ℕ) (y : Option Lexeme × List ℕ) → 0 < length bs → piece_at bs ≡ Some y → (ts : List Lexeme)
    → Tokens bs ts → (others : List Lexeme) × Tokens y.1 others × (ts ≡ with_token y.0 others)
less_tokens bs y lt e ts t = go t.0 t.1
  where
    go : (ps : List Piece) → Cuts ps bs ts → (others : List Lexeme) × Tokens y.1 others × (ts ≡ with_token y.0 others)
    go [] c = absurd (omega (arith, ap length c.0))
    go (p ∷ ps) c =
        let again : (token_of p, c.0) ≡ y = some_is _ _ (sym (piece_again p c.0 c.3) ∙ ap piece_at (sym c.2) ∙ e) in
        subst (λ (z : Option Lexeme × List ℕ). (others : List Lexeme) × Tokens z.1 others
        × (ts ≡ with_token z.0 others)) again (c.1, (ps, c.5), c.4)

has_piece : (bs : List ℕ) (ts : List Lexeme) → 0 < length bs → Tokens bs ts → piece_at bs ≡ None → ⊥
has_piece bs ts lt t none = go t.0 t.1
  where
    go : (ps : List Piece) → Cuts ps bs ts → ⊥
    go [] c = absurd (omega (arith, ap length c.0))
    go (p ∷ ps) c = some_is_not (token_of p, c.0) (sym (piece_again p c.0 c.3) ∙ ap piece_at (sym c.2) ∙ none)

pub no_more : (bs : List ℕ) (ts : List Lexeme) → length bs ≡ 0 → Tokens bs ts → ts ≡ []
no_more bs ts none t = go t.0 t.1
  where
    go : (ps : List Piece) → Cuts ps bs ts → ts ≡ []
    go [] c = c.1
    go (p ∷ ps) c = absurd (let e = ap length c.2 in omega (arith, none, e, longer p c.0 c.3))

pub all_done : (bs : List ℕ) → length bs ≡ 0 → Tokens bs []
all_done bs none = ([], (nil_from_length bs none, refl))

pub fails_too : (e : Fault) (bs : List ℕ) (others : List Lexeme) → 0 < length bs → RefusesRightly e (piece_at bs)
    → Tokens bs others → (ts : List Lexeme) → RefusesRightly e (Some ts)
fails_too fault.NoMemory bs others lt h t ts = tt
fails_too (fault.Refused w n) bs others lt h t ts = absurd (has_piece bs others lt t h)

-- a text is cut into one list of tokens
one_cut : (ps : List Piece) (bs : List ℕ) (ts us : List Lexeme) → Cuts ps bs ts → Tokens bs us → ts ≡ us
one_cut [] bs ts us c t = c.1 ∙ sym (no_more bs us (ap length c.0) t)
one_cut (p ∷ ps) bs ts us c t =
    let again : piece_at bs ≡ Some (token_of p, c.0) = ap piece_at c.2 ∙ piece_again p c.0 c.3 in
    let lt : 0 < length bs = omega (arith, ap length c.2, longer p c.0 c.3) in
    let l = less_tokens bs (token_of p, c.0) lt again us t in
    c.4 ∙ ap (λ (x : List Lexeme). with_token (token_of p) x) (one_cut ps c.0 c.1 l.0 c.5 l.1) ∙ sym l.2

pub one_list : (bs : List ℕ) (ts us : List Lexeme) → Tokens bs ts → Tokens bs us → ts ≡ us
one_list bs ts us s t = one_cut s.0 bs ts us s.1 t

-- a fault of what is left of a text is one of the text
pub fault_within : (e : Fault) (rest text : List ℕ) → length rest ≤ length text → IsTokenFault rest e
    → IsTokenFault text e
fault_within fault.NoMemory rest text le h = tt
fault_within (fault.Refused w n) rest text le h = (h.0, h.1, h.2, omega (arith, h.3))

pub retained : (front : List Lexeme) (t : Option Lexeme) (ts : List Lexeme)
    → front ++ with_token t ts ≡ (front ++ with_token t []) ++ ts
retained front None ts = simp append_assoc
retained front (Some t) ts = simp append_assoc
