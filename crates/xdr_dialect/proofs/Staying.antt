-- A text of the RFCs' language stays what it is without lines of % and #: it has none, but in comments.
use Rattle.std.proofs.Common.{◌≡◌, ℕ, Bool, true, false, eqb, List, [], ◌∷◌, ◌++◌, refl, arith, inl, inr}
use Rattle.std.proofs.Common.{Ok}
use Rattle.std.specs.Prelude.{◌&&◌, not}
use Rattle.std.proofs.lemmas.Bool.{cases_Bool as test}
use Rattle.xdr_tokens.specs.declared.token.Mark.{Mark}
use Rattle.xdr_tokens.specs.declared.token.Mark.TheVariants as mark
use Rattle.xdr_tokens.specs.Bytes.{is_space, is_word}
use Rattle.xdr_tokens.specs.Tokens.{Lexeme}
use Rattle.xdr_tokens.specs.Text.{Piece, Blank, Comment, Run, Constant, Single, spelling, IsRun, HasNoEnd, BeginsWord}
use Rattle.xdr_tokens.specs.Text.{IsNumeral, MayPrecede, Cuts, mark_text}
use Rattle.xdr_dialect.specs.declared.gate.Gate.TheVariants as gate
use Rattle.xdr_dialect.specs.declared.spot.Spot.{Spot}
use Rattle.xdr_dialect.specs.declared.spot.Spot.TheVariants as spot
use Rattle.xdr_dialect.specs.Spots.{kept, next_spot}
use Rattle.xdr_dialect.specs.Plain.{Standing, is_fresh, plain_from}
use Rattle.xdr_dialect.specs.Laws.{TextsStay}

-- where no section is open
abbrev at_spot : Spot → Standing
at_spot s = record { spot = s; gate = gate.Outside; outer = []; defines = [] }

-- the rest of a text stays
abbrev Stay : (names : List (List ℕ)) → Spot → List ℕ → Type 0
Stay names s bs = plain_from names (at_spot s) bs ≡ Ok bs

-- a byte stays, and no line of # begins
record Stays (s : Spot) (b : ℕ) (next : Spot) : Type 0 where
  kept_is : kept s b ≡ b
  next_is : next_spot s b ≡ next
  no_line : (is_fresh s && eqb b 35) ≡ false

then_stays : (names : List (List ℕ)) (s onto : Spot) (b : ℕ) (bs : List ℕ) → Stays s b onto → Stay names onto bs
    → Stay names s (b ∷ bs)
unfolding plain_from
then_stays names s onto b bs h more = rw (h.no_line, h.kept_is, h.next_is, more) refl

-- in the text, where a line begins or not
abbrev in_text : Bool → Spot
in_text true = spot.Fresh
in_text false = spot.Text

-- ---- white space

pub space_apart : (b : ℕ) → is_space b ≡ true
    → (eqb b 34 ≡ false) × (eqb b 35 ≡ false) × (eqb b 37 ≡ false) × (eqb b 47 ≡ false)
space_apart b h = (grind arith, grind arith, grind arith, grind arith)

blank_stays : (names : List (List ℕ)) (fresh : Bool) (b : ℕ) (bs : List ℕ) → is_space b ≡ true
    → ((f : Bool) → Stay names (in_text f) bs) → Stay names (in_text fresh) (b ∷ bs)
blank_stays names true b bs h more =
    let a = space_apart b h in
    then_stays names spot.Fresh spot.Fresh b bs
    (record { kept_is = rw (a.2, a.0) refl; next_is = rw h refl; no_line = a.1 }) (more true)
blank_stays names false b bs h more =
    let a = space_apart b h in
    elim (test (eqb b 10)) [
      | inl on ↦
          then_stays names spot.Text spot.Fresh b bs
          (record { kept_is = rw a.0 refl; next_is = rw on refl; no_line = refl }) (more true)
      | inr off ↦
          then_stays names spot.Text spot.Text b bs
          (record { kept_is = rw a.0 refl; next_is = rw (off, a.3, a.0) refl; no_line = refl }) (more false)
    ]

-- ---- runs and numerals

word_apart : (b : ℕ) → is_word b ≡ true
    → (eqb b 34 ≡ false) × (eqb b 35 ≡ false) × (eqb b 37 ≡ false) × (eqb b 47 ≡ false) × (eqb b 10 ≡ false)
    × (is_space b ≡ false)
word_apart b h = (grind arith, grind arith, grind arith, grind arith, grind arith, grind arith)

word_stays : (fresh : Bool) (b : ℕ) → is_word b ≡ true → Stays (in_text fresh) b spot.Text
word_stays true b h =
    let a = word_apart b h in
    record { kept_is = rw (a.2, a.0) refl; next_is = rw (a.5, a.2, a.4, a.3, a.0) refl; no_line = a.1 }
word_stays false b h =
    let a = word_apart b h in
    record { kept_is = rw a.0 refl; next_is = rw (a.4, a.3, a.0) refl; no_line = refl }

run_stays : (names : List (List ℕ)) (run rest : List ℕ) → IsRun run → Stay names spot.Text rest
    → Stay names spot.Text (run ++ rest)
run_stays names [] rest h more = more
run_stays names (b ∷ run) rest h more =
    then_stays names spot.Text spot.Text b (run ++ rest) (word_stays false b h.0) (run_stays names run rest h.1 more)

-- a run that is not empty, from either
first_run_stays : (names : List (List ℕ)) (fresh : Bool) (b : ℕ) (run rest : List ℕ) → IsRun (b ∷ run)
    → Stay names spot.Text rest → Stay names (in_text fresh) (b ∷ (run ++ rest))
first_run_stays names fresh b run rest h more =
    then_stays names (in_text fresh) spot.Text b (run ++ rest) (word_stays fresh b h.0)
    (run_stays names run rest h.1 more)

begun_stays : (names : List (List ℕ)) (fresh : Bool) (run rest : List ℕ) → BeginsWord run → IsRun run
    → Stay names spot.Text rest → Stay names (in_text fresh) (run ++ rest)
begun_stays names fresh [] rest begins h more = absurd begins
begun_stays names fresh (b ∷ run) rest begins h more = first_run_stays names fresh b run rest h more

-- ---- marks

-- a byte that is nothing of the dialect's
abbrev is_single : ℕ → Bool
is_single b = not (eqb b 10) && not (eqb b 34) && not (eqb b 35) && not (eqb b 37) && not (eqb b 47) && not (is_space b)

single_apart : (b : ℕ) → is_single b ≡ true
    → (eqb b 34 ≡ false) × (eqb b 35 ≡ false) × (eqb b 37 ≡ false) × (eqb b 47 ≡ false) × (eqb b 10 ≡ false)
    × (is_space b ≡ false)
single_apart b h = (grind arith, grind arith, grind arith, grind arith, grind arith, grind arith)

single_byte : (fresh : Bool) (b : ℕ) → is_single b ≡ true → Stays (in_text fresh) b spot.Text
single_byte true b h =
    let a = single_apart b h in
    record { kept_is = rw (a.2, a.0) refl; next_is = rw (a.5, a.2, a.4, a.3, a.0) refl; no_line = a.1 }
single_byte false b h =
    let a = single_apart b h in
    record { kept_is = rw a.0 refl; next_is = rw (a.4, a.3, a.0) refl; no_line = refl }

single_stays : (names : List (List ℕ)) (fresh : Bool) (m : Mark) (rest : List ℕ) → Stay names spot.Text rest
    → Stay names (in_text fresh) (mark_text m ++ rest)
single_stays names fresh mark.OpenBrace rest more =
    then_stays names (in_text fresh) spot.Text 123 rest (single_byte fresh 123 refl) more
single_stays names fresh mark.CloseBrace rest more =
    then_stays names (in_text fresh) spot.Text 125 rest (single_byte fresh 125 refl) more
single_stays names fresh mark.OpenRound rest more =
    then_stays names (in_text fresh) spot.Text 40 rest (single_byte fresh 40 refl) more
single_stays names fresh mark.CloseRound rest more =
    then_stays names (in_text fresh) spot.Text 41 rest (single_byte fresh 41 refl) more
single_stays names fresh mark.OpenBracket rest more =
    then_stays names (in_text fresh) spot.Text 91 rest (single_byte fresh 91 refl) more
single_stays names fresh mark.CloseBracket rest more =
    then_stays names (in_text fresh) spot.Text 93 rest (single_byte fresh 93 refl) more
single_stays names fresh mark.Less rest more =
    then_stays names (in_text fresh) spot.Text 60 rest (single_byte fresh 60 refl) more
single_stays names fresh mark.Greater rest more =
    then_stays names (in_text fresh) spot.Text 62 rest (single_byte fresh 62 refl) more
single_stays names fresh mark.Equal rest more =
    then_stays names (in_text fresh) spot.Text 61 rest (single_byte fresh 61 refl) more
single_stays names fresh mark.Comma rest more =
    then_stays names (in_text fresh) spot.Text 44 rest (single_byte fresh 44 refl) more
single_stays names fresh mark.Semicolon rest more =
    then_stays names (in_text fresh) spot.Text 59 rest (single_byte fresh 59 refl) more
single_stays names fresh mark.Colon rest more =
    then_stays names (in_text fresh) spot.Text 58 rest (single_byte fresh 58 refl) more
single_stays names fresh mark.Star rest more =
    then_stays names (in_text fresh) spot.Text 42 rest (single_byte fresh 42 refl) more

numeral_stays : (names : List (List ℕ)) (fresh : Bool) (run rest : List ℕ) → IsNumeral run
    → Stay names spot.Text rest → Stay names (in_text fresh) (run ++ rest)
numeral_stays names fresh [] rest is more = absurd is
numeral_stays names fresh (b ∷ run) rest (inl is) more = first_run_stays names fresh b run rest is.1 more
numeral_stays names fresh (b ∷ run) rest (inr is) more =
    rw is.0 (then_stays names (in_text fresh) spot.Text 45 (run ++ rest) (single_byte fresh 45 refl)
    (run_stays names run rest is.2 more))

-- ---- comments

-- in a comment, behind a star or not
abbrev in_comment : Bool → Spot
in_comment true = spot.Star
in_comment false = spot.Comment

-- behind a star no / comes
abbrev pub NoSlash : Bool → List ℕ → Type 0
NoSlash star [] = Unit {0}
NoSlash star (b ∷ bs) = (star && eqb b 47) ≡ false

pub no_end_behind : (b : ℕ) (bs : List ℕ) → HasNoEnd (b ∷ bs) → NoSlash (eqb b 42) bs × HasNoEnd bs
no_end_behind b [] h = (tt, tt)
no_end_behind b (c ∷ bs) h = (h.0, h.1)

inner_stays : (star : Bool) (b : ℕ) → (star && eqb b 47) ≡ false → Stays (in_comment star) b (in_comment (eqb b 42))
inner_stays false b h = elim (test (eqb b 42)) [
  | inl on ↦ record { kept_is = refl; next_is = rw on refl; no_line = refl }
  | inr off ↦ record { kept_is = refl; next_is = rw off refl; no_line = refl }
]
inner_stays true b h = elim (test (eqb b 42)) [
  | inl on ↦ record { kept_is = refl; next_is = rw (h, on) refl; no_line = refl }
  | inr off ↦ record { kept_is = refl; next_is = rw (h, off) refl; no_line = refl }
]

inside_stays : (names : List (List ℕ)) (star : Bool) (inside rest : List ℕ) → HasNoEnd inside → NoSlash star inside
    → Stay names spot.Text rest → Stay names (in_comment star) (inside ++ 42 ∷ 47 ∷ rest)
inside_stays names true [] rest h apart more =
    then_stays names spot.Star spot.Star 42 (47 ∷ rest) (record { kept_is = refl; next_is = refl; no_line = refl })
    (then_stays names spot.Star spot.Text 47 rest (record { kept_is = refl; next_is = refl; no_line = refl }) more)
inside_stays names false [] rest h apart more =
    then_stays names spot.Comment spot.Star 42 (47 ∷ rest) (record { kept_is = refl; next_is = refl; no_line = refl })
    (then_stays names spot.Star spot.Text 47 rest (record { kept_is = refl; next_is = refl; no_line = refl }) more)
inside_stays names star (b ∷ inside) rest h apart more =
    let behind = no_end_behind b inside h in
    then_stays names (in_comment star) (in_comment (eqb b 42)) b (inside ++ 42 ∷ 47 ∷ rest) (inner_stays star b apart)
    (inside_stays names (eqb b 42) inside rest behind.1 behind.0 more)

pub no_slash : (inside : List ℕ) → NoSlash false inside
no_slash [] = tt
no_slash (b ∷ bs) = refl

opening : (fresh : Bool) → Stays (in_text fresh) 47 spot.Slash
opening true = record { kept_is = refl; next_is = refl; no_line = refl }
opening false = record { kept_is = refl; next_is = refl; no_line = refl }

comment_stays : (names : List (List ℕ)) (fresh : Bool) (inside rest : List ℕ) → HasNoEnd inside
    → Stay names spot.Text rest → Stay names (in_text fresh) (47 ∷ 42 ∷ (inside ++ 42 ∷ 47 ∷ rest))
comment_stays names fresh inside rest h more =
    then_stays names (in_text fresh) spot.Slash 47 (42 ∷ (inside ++ 42 ∷ 47 ∷ rest)) (opening fresh)
    (then_stays names spot.Slash spot.Comment 42 (inside ++ 42 ∷ 47 ∷ rest)
    (record { kept_is = refl; next_is = refl; no_line = refl })
    (inside_stays names false inside rest h (no_slash inside) more))

-- ---- all pieces

piece_stays : (names : List (List ℕ)) (fresh : Bool) (p : Piece) (rest : List ℕ) → MayPrecede p rest
    → ((f : Bool) → Stay names (in_text f) rest) → Stay names (in_text fresh) (spelling p rest)
piece_stays names fresh (Blank b) rest may more = blank_stays names fresh b rest may more
piece_stays names fresh (Comment inside) rest may more = comment_stays names fresh inside rest may (more false)
piece_stays names fresh (Run run) rest may more = begun_stays names fresh run rest may.0 may.1 (more false)
piece_stays names fresh (Constant run v) rest may more = numeral_stays names fresh run rest may.0 (more false)
piece_stays names fresh (Single m) rest may more = single_stays names fresh m rest (more false)

cuts_stay : (names : List (List ℕ)) (fresh : Bool) (ps : List Piece) (bs : List ℕ) (ts : List Lexeme) → Cuts ps bs ts
    → Stay names (in_text fresh) bs
unfolding plain_from
cuts_stay names fresh [] bs ts h = rw h.0 refl
cuts_stay names fresh (p ∷ ps) bs ts h =
    rw h.2 (piece_stays names fresh p h.0 h.3 (λ f. cuts_stay names f ps h.0 h.1 h.5))

pub texts_stay : TextsStay
texts_stay names text ts t = cuts_stay names true t.0 text ts t.1
