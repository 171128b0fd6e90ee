-- What is read from the front is a piece, and a piece in front is read.
use Rattle.std.proofs.Common.{◌≡◌, ℕ, suc, ◌+◌, ◌≤◌, Bool, true, false, cond, eqb, List, [], ◌∷◌, ◌++◌, length, take}
use Rattle.std.proofs.Common.{drop, Option, Some, refl, sym, ap, subst, ◌∙◌, arith, inl, inr}
use Rattle.std.specs.Prelude.{◌&&◌}
use Rattle.std.proofs.lemmas.Bool.{eqb-true}
use Rattle.std.proofs.lemmas.List.{take_at, drop_at, take-append-drop}
use Rattle.std.proofs.lemmas.Bool.{cases_Bool as test}
use Rattle.xdr_tokens.specs.declared.token.Mark.{Mark}
use Rattle.xdr_tokens.specs.declared.token.Mark.TheVariants as mark
use Rattle.xdr_tokens.specs.Bytes.{within, is_space, is_letter, is_digit, is_word, run_length, after_comment, number_of}
use Rattle.xdr_tokens.specs.Bytes.{decimal}
use Rattle.xdr_tokens.specs.Tokens.{Lexeme, Number, Sign}
use Rattle.xdr_tokens.specs.Private.Front.{comment_at, numeral_at, piece_at, mark_code, mark_among, mark_of}
use Rattle.xdr_tokens.proofs.Options.{some_is, bind_some, chosen}
use Rattle.xdr_tokens.specs.Text.{Piece, Blank, Comment, Run, Constant, Single, spelling, IsRun, HasNoEnd, EndsRun}
use Rattle.xdr_tokens.specs.Text.{BeginsWord, BeginsDigit, IsNumeral, MayPrecede, token_of, marks, mark_text}
use Rattle.std.proofs.Math.Bool.{and-false as and_false}

-- ---- runs

run_length-within : (bs : List ℕ) → run_length bs ≤ length bs
unfolding run_length
run_length-within [] = omega arith
run_length-within (b ∷ bs) = elim (is_word b) as
    (λ w. cond w (suc (run_length bs)) 0 ≤ suc (length bs)) [
      | true ↦ omega (arith, run_length-within bs)
      | false ↦
          omega arith
    ]

pub run_is : (bs : List ℕ) → IsRun (take (run_length bs) bs)
unfolding run_length
run_is [] = tt
run_is (b ∷ bs) = elim (test (is_word b)) [ inl on ↦ rw on (on, run_is bs) | inr off ↦ rw off tt ]

run_ends : (bs : List ℕ) → run_length (drop (run_length bs) bs) ≡ 0
unfolding run_length
run_ends [] = refl
run_ends (b ∷ bs) = elim (test (is_word b)) [ inl on ↦ rw on (run_ends bs) | inr off ↦ rw (off, off) refl ]

run_again : (run rest : List ℕ) → IsRun run → run_length rest ≡ 0 → run_length (run ++ rest) ≡ length run
unfolding run_length
run_again [] rest h ends = ends
run_again (b ∷ run) rest h ends = rw h.0 (ap suc (run_again run rest h.1 ends))

-- ---- comments

and_true : (a b : Bool) → (a && b) ≡ true → (a ≡ true) × (b ≡ true)
and_true true b e = (refl, e)
and_true false b e = absurd cc

record IsComment (bs rest : List ℕ) : Type 0 where
  inside : List ℕ
  all : bs ≡ inside ++ 42 ∷ 47 ∷ rest
  no_end : HasNoEnd inside

longer : (a b : ℕ) (bs rest : List ℕ) → (eqb a 42 && eqb b 47) ≡ false → IsComment (b ∷ bs) rest
    → IsComment (a ∷ b ∷ bs) rest
longer a b bs rest off c = go c.inside c.all c.no_end
  where
    go : (inside : List ℕ) → (b ∷ bs) ≡ inside ++ 42 ∷ 47 ∷ rest → HasNoEnd inside → IsComment (a ∷ b ∷ bs) rest
    go [] all h = record { inside = a ∷ []; all = ap (λ (x : List ℕ). a ∷ x) all; no_end = tt }
    go (c ∷ inside) all h =
        let same : c ≡ b = cc in
        record { inside = a ∷ c ∷ inside; all = ap (λ (x : List ℕ). a ∷ x) all; no_end = (rw same off, h) }

comment_found : (bs rest : List ℕ) → after_comment bs ≡ Some rest → IsComment bs rest
unfolding after_comment
comment_found [] rest e = absurd cc
comment_found (a ∷ []) rest e = absurd cc
comment_found (a ∷ b ∷ bs) rest e =
    elim (test (eqb a 42 && eqb b 47)) [
      | inl on ↦
          let both = and_true (eqb a 42) (eqb b 47) on in
          let star : a ≡ 42 = eqb-true a 42 both.0 in
          let slash : b ≡ 47 = eqb-true b 47 both.1 in
          let found : Some bs ≡ Some rest = rw on at e in
          let same : bs ≡ rest = cc in
          record { inside = []; all = rw (star, slash, same) refl; no_end = tt }
      | inr off ↦ longer a b bs rest off (comment_found (b ∷ bs) rest (rw off at e))
    ]

comment_again : (inside rest : List ℕ) → HasNoEnd inside → after_comment (inside ++ 42 ∷ 47 ∷ rest) ≡ Some rest
unfolding after_comment
comment_again [] rest h = refl
comment_again (a ∷ []) rest h = rw (and_false (eqb a 42)) refl
comment_again (a ∷ b ∷ inside) rest h = rw h.0 (comment_again (b ∷ inside) rest h.1)

-- ---- pieces

pub record IsPiece (text : List ℕ) (y : Option Lexeme × List ℕ) : Type 0 where
  pub piece : Piece
  pub spelled : text ≡ spelling piece y.1
  pub represents : MayPrecede piece y.1
  pub token : y.0 ≡ token_of piece

with_piece : (text : List ℕ) (x y : Option Lexeme × List ℕ) → IsPiece text x → Some x ≡ Some y → IsPiece text y
with_piece text x y h e = subst (λ (z : Option Lexeme × List ℕ). IsPiece text z) (some_is x y e) h

letter_apart : (b : ℕ) → is_letter b ≡ true → (is_space b ≡ false) × (eqb b 47 ≡ false)
letter_apart b h = (grind arith, grind arith)

digit_apart : (b : ℕ) → is_digit b ≡ true → (is_space b ≡ false) × (eqb b 47 ≡ false) × (is_letter b ≡ false)
digit_apart b h = (grind arith, grind arith, grind arith)

single_again : (m : Mark) (rest : List ℕ) → piece_at (mark_text m ++ rest) ≡ Some (Some (Sign m), rest)
unfolding piece_at
single_again mark.OpenBrace rest = refl
single_again mark.CloseBrace rest = refl
single_again mark.OpenRound rest = refl
single_again mark.CloseRound rest = refl
single_again mark.OpenBracket rest = refl
single_again mark.CloseBracket rest = refl
single_again mark.Less rest = refl
single_again mark.Greater rest = refl
single_again mark.Equal rest = refl
single_again mark.Comma rest = refl
single_again mark.Semicolon rest = refl
single_again mark.Colon rest = refl
single_again mark.Star rest = refl

numeral_again : (run rest : List ℕ) (v : _) → number_of run ≡ Some v
    → numeral_at (length run) (run ++ rest) ≡ Some (Some (Number v), rest)
numeral_again run rest v h = rw (take_at run rest (length run) refl, drop_at run rest (length run) refl, h) refl

pub piece_again : (p : Piece) (rest : List ℕ) → MayPrecede p rest → piece_at (spelling p rest) ≡ Some (token_of p, rest)
unfolding piece_at comment_at
piece_again (Blank b) rest h = rw h refl
piece_again (Comment inside) rest h = rw (comment_again inside rest h) refl
piece_again (Run []) rest h = absurd h.0
piece_again (Run (b ∷ run)) rest h =
    let apart = letter_apart b h.0 in
    let len = run_again (b ∷ run) rest h.1 h.2 in
    rw (
      apart.0,
      apart.1,
      h.0,
      len,
      take_at (b ∷ run) rest (length (b ∷ run)) refl,
      drop_at (b ∷ run) rest (length (b ∷ run)) refl,
    ) refl
piece_again (Constant [] v) rest h = absurd h.0
piece_again (Constant (b ∷ run) v) rest h =
    elim h.0 [
      | inl digits ↦
          let apart = digit_apart b digits.0 in
          let len = run_again (b ∷ run) rest digits.1 h.2 in
          rw (apart.0, apart.1, apart.2, digits.0, len) (numeral_again (b ∷ run) rest v h.1)
      | inr minus ↦
          let len = run_again run rest minus.2 h.2 in
          let n : 1 + length run ≡ suc (length run) = omega arith in
          rw (minus.0, len, n) (rw (← minus.0) (numeral_again (b ∷ run) rest v h.1))
    ]
piece_again (Single m) rest h = single_again m rest

record IsInside (bs rest : List ℕ) : Type 0 where
  inside : List ℕ
  all : bs ≡ 42 ∷ inside ++ 42 ∷ 47 ∷ rest
  no_end : HasNoEnd inside

inside_found : (bs rest : List ℕ) → comment_at bs ≡ Some rest → IsInside bs rest
unfolding comment_at
inside_found [] rest e = absurd cc
inside_found (b ∷ bs) rest e =
    elim (chosen (eqb b 42) _ _ _ e) [
      | inl s ↦
          let c = comment_found bs rest s.1 in
          record {
            inside = c.inside;
            all = ap (λ (x : ℕ). x ∷ bs) (eqb-true b 42 s.0)
                ∙ ap (λ (x : List ℕ). 42 ∷ x) c.all;
            no_end = c.no_end;
          }
      | inr s ↦ absurd (let e = s.1 in cc)
    ]

letter_is_word : (b : ℕ) → is_letter b ≡ true → is_word b ≡ true
letter_is_word b h = grind arith

digit_is_word : (b : ℕ) → is_digit b ≡ true → is_word b ≡ true
digit_is_word b h = grind arith

word_begins : (b : ℕ) (bs : List ℕ) → is_letter b ≡ true → BeginsWord (take (run_length (b ∷ bs)) (b ∷ bs))
unfolding run_length
word_begins b bs h = rw (letter_is_word b h) h

digits_begin : (b : ℕ) (bs : List ℕ) → is_digit b ≡ true → IsNumeral (take (run_length (b ∷ bs)) (b ∷ bs))
unfolding run_length
digits_begin b bs h = rw (digit_is_word b h) (inl (h, (digit_is_word b h, run_is bs)))

decimal_begins : (bs : List ℕ) (n : ℕ) → decimal bs ≡ Some n → BeginsDigit bs
decimal_begins [] n e = absurd cc
decimal_begins (b ∷ bs) n e =
    elim (chosen (within 49 57 b) _ _ _ e) [
      | inl s ↦ let h : within 49 57 b ≡ true = s.0 in grind arith
      | inr s ↦ absurd (let e = s.1 in cc)
    ]

numeral_found : (n : ℕ) (bs : List ℕ) (y : Option Lexeme × List ℕ) → numeral_at n bs ≡ Some y → IsNumeral (take n bs)
    → EndsRun (drop n bs) → IsPiece bs y
numeral_found n bs y e is ends =
    let v = bind_some (number_of (take n bs)) _ y e in
    with_piece bs _ y (record {
      piece = Constant (take n bs) v.0;
      spelled = sym (take-append-drop n bs);
      represents = (is, v.1, ends);
      token = refl;
    }) v.2

minus_found : (b : ℕ) (bs : List ℕ) (y : Option Lexeme × List ℕ) → b ≡ 45
    → numeral_at (1 + run_length bs) (b ∷ bs) ≡ Some y → IsPiece (b ∷ bs) y
unfolding number_of
minus_found b bs y minus e =
    let n : 1 + run_length bs ≡ suc (run_length bs) = omega arith in
    let e2 : numeral_at (suc (run_length bs)) (45 ∷ bs) ≡ Some y = subst (λ (k : ℕ). numeral_at k (45 ∷ bs) ≡ Some y) n
    (subst (λ (x : ℕ). numeral_at (1 + run_length bs) (x ∷ bs) ≡ Some y) minus e) in
    let v = bind_some (number_of (45 ∷ take (run_length bs) bs)) _ y e2 in
    let d = bind_some (decimal (take (run_length bs) bs)) _ v.0 v.1 in
    subst (λ (x : ℕ). IsPiece (x ∷ bs) y) (sym minus)
    (numeral_found (suc (run_length bs)) (45 ∷ bs) y e2
    (inr (refl, decimal_begins (take (run_length bs) bs) d.0 d.1, run_is bs)) (run_ends bs))

pub one_byte : (m : Mark) → mark_text m ≡ mark_code m ∷ []
one_byte mark.OpenBrace = refl
one_byte mark.CloseBrace = refl
one_byte mark.OpenRound = refl
one_byte mark.CloseRound = refl
one_byte mark.OpenBracket = refl
one_byte mark.CloseBracket = refl
one_byte mark.Less = refl
one_byte mark.Greater = refl
one_byte mark.Equal = refl
one_byte mark.Comma = refl
one_byte mark.Semicolon = refl
one_byte mark.Colon = refl
one_byte mark.Star = refl

mark_found : (ms : List Mark) (b : ℕ) (m : Mark) → mark_among ms b ≡ Some m → b ≡ mark_code m
mark_found [] b m e = absurd cc
mark_found (k ∷ ms) b m e =
    elim (chosen (eqb b (mark_code k)) _ _ _ e) [
      | inl s ↦ eqb-true b (mark_code k) s.0 ∙ ap mark_code (some_is k m s.1)
      | inr s ↦ mark_found ms b m s.1
    ]

pub piece_found : (text : List ℕ) (y : Option Lexeme × List ℕ) → piece_at text ≡ Some y → IsPiece text y
unfolding piece_at
piece_found [] y e = absurd cc
piece_found (b ∷ bs) y e =
    elim (chosen (is_space b) _ _ _ e) [
      | inl s ↦ with_piece (b ∷ bs) _ y (record { piece = Blank b; spelled = refl; represents = s.0; token = refl }) s.1
      | inr e1 ↦ elim (chosen (eqb b 47) _ _ _ e1.1) [
        | inl s ↦
            let r = bind_some (comment_at bs) _ y s.1 in
            let c = inside_found bs r.0 r.1 in
            let slash : b ≡ 47 = eqb-true b 47 s.0 in
            with_piece (b ∷ bs) _ y
            (record {
              piece = Comment c.inside;
              spelled = ap (λ (x : ℕ). x ∷ bs) slash
                  ∙ ap (λ (x : List ℕ). 47 ∷ x) c.all;
              represents = c.no_end;
              token = refl;
            }) r.2
        | inr e2 ↦ elim (chosen (is_letter b) _ _ _ e2.1) [
          | inl s ↦
              let n = run_length (b ∷ bs) in
              with_piece (b ∷ bs) _ y
              (record {
                piece = Run (take n (b ∷ bs));
                spelled = sym (take-append-drop n (b ∷ bs));
                represents = (word_begins b bs s.0, run_is (b ∷ bs), run_ends (b ∷ bs));
                token = refl;
              }) s.1
          | inr e3 ↦ elim (chosen (is_digit b) _ _ _ e3.1) [
            | inl s ↦ numeral_found (run_length (b ∷ bs)) (b ∷ bs) y s.1 (digits_begin b bs s.0) (run_ends (b ∷ bs))
            | inr e4 ↦ elim (chosen (eqb b 45) _ _ _ e4.1) [
              | inl s ↦ minus_found b bs y (eqb-true b 45 s.0) s.1
              | inr e5 ↦
                  let m = bind_some (mark_of b) _ y e5.1 in
                  with_piece (b ∷ bs) _ y
                  (record {
                    piece = Single m.0;
                    spelled = ap (λ (x : ℕ). x ∷ bs) (mark_found marks b m.0 m.1)
                        ∙ ap (λ (x : List ℕ). x ++ bs) (sym (one_byte m.0));
                    represents = tt;
                    token = refl;
                  }) m.2
            ]
          ]
        ]
      ]
    ]
