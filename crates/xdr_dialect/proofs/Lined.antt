-- The lines of the dialect: what is left of each.
use Rattle.std.proofs.Common.{◌≡◌, ℕ, suc, Bool, true, false, eqb, List, [], ◌∷◌, ◌++◌, length, map, append_assoc}
use Rattle.std.proofs.Common.{refl, sym, ap, ◌∙◌}
use Rattle.std.proofs.Common.{Some, None, Result, Ok, Err, inl, inr, subst}
use Rattle.std.specs.Prelude.{Option, ◌&&◌, ◌||◌, if◌then◌else◌}
use Rattle.std.proofs.lemmas.Bool.{cases_Bool as test}
use Rattle.xdr_tokens.specs.declared.fault.Fault.{Fault}
use Rattle.xdr_tokens.specs.declared.fault.Fault.TheVariants as fault
use Rattle.xdr_tokens.specs.declared.fault.Wrong.TheVariants as wrong
use Rattle.xdr_tokens.specs.Bytes.{is_space}
use Rattle.xdr_tokens.specs.Text.{HasNoEnd}
use Rattle.xdr_dialect.specs.declared.directive.Directive.{Directive}
use Rattle.xdr_dialect.specs.declared.directive.Directive.TheVariants as say
use Rattle.xdr_dialect.specs.declared.gate.Gate.{Gate}
use Rattle.xdr_dialect.specs.declared.gate.Gate.TheVariants as gate
use Rattle.xdr_dialect.specs.declared.part.Part.{Part}
use Rattle.xdr_dialect.specs.declared.part.Part.TheVariants as part
use Rattle.xdr_dialect.specs.declared.spot.Spot.{Spot}
use Rattle.xdr_dialect.specs.declared.spot.Spot.TheVariants as spot
use Rattle.xdr_dialect.specs.Spots.{blank, kept, next_part, next_spot, is_line}
use Rattle.xdr_dialect.specs.Blanks.{begins, after_blanks, after_blanks_from, closes_from, closes}
use Rattle.xdr_dialect.specs.Directives.{directive, name_of_definition, is_shown, opened, turned, turned_if}
use Rattle.xdr_dialect.specs.Plain.{Standing, Turn, joined, is_fresh, directed, with_turn, plain_from}
use Rattle.xdr_dialect.specs.Lines.{lines, blanks, seen, Stretch, Byte, Comment, Quoted, spelled, left_of, HasNeither}
use Rattle.xdr_dialect.specs.Lines.{continued, IsContinued, IsHashed, IsWritten, BeginsText, said, naming}
use Rattle.xdr_dialect.specs.Lines.{IsBlank, IsRefused}
use Rattle.xdr_dialect.specs.Lines.{Texts, Sections, Hashes, Gaps}
use Rattle.xdr_dialect.proofs.Joined.{joined_none, joined_twice}
use Rattle.xdr_dialect.proofs.Staying.{NoSlash, no_end_behind, no_slash, space_apart}

-- where a byte stands
abbrev stood : Standing → Spot → Standing
stood s sp = record s { spot = sp }

-- a byte at a spot: what is left of it, and where the next stands
record Passes (shown : Bool) (sp : Spot) (b byte : ℕ) (onto : Spot) : Type 0 where
  byte_is : (if shown then kept sp b else blank b) ≡ byte
  next_is : next_spot sp b ≡ onto
  no_line : (is_fresh sp && eqb b 35) ≡ false

-- the rest of a text gives these bytes, and what comes behind them
abbrev Gives : (names : List (List ℕ)) → Standing → Spot → (bs out : List ℕ) → Result (List ℕ) Fault → Type 0
Gives names s sp bs out end = plain_from names (stood s sp) bs ≡ joined out end

then_gives : (names : List (List ℕ)) (s : Standing) (sp onto : Spot) (b byte : ℕ) (bs out : List ℕ)
    (end : Result (List ℕ) Fault) → Passes (is_shown s.gate) sp b byte onto → Gives names s onto bs out end
    → Gives names s sp (b ∷ bs) (byte ∷ out) end
unfolding plain_from
then_gives names s sp onto b byte bs out end h more =
    rw (h.no_line, h.byte_is, h.next_is, more) (joined_twice (byte ∷ []) out end)

either : (shown : Bool) (x : ℕ) → (if shown then x else x) ≡ x
either true x = refl
either false x = refl

both : (b c : Bool) → (b || c) ≡ false → (b ≡ false) × (c ≡ false)
both false false h = (refl, refl)
both true c h = absurd cc
both false true h = absurd cc

-- the rest of a text gives blanks in place of these bytes, and what comes behind them
abbrev Hides : (names : List (List ℕ)) → Standing → Spot → (bs raw : List ℕ) → Result (List ℕ) Fault → Type 0
Hides names s sp bs raw end = Gives names s sp bs (blanks raw) end

-- a byte of which a blank stays
then_hides : (names : List (List ℕ)) (s : Standing) (sp onto : Spot) (b : ℕ) (bs raw : List ℕ)
    (end : Result (List ℕ) Fault) → kept sp b ≡ blank b → next_spot sp b ≡ onto → (is_fresh sp && eqb b 35) ≡ false
    → Hides names s onto bs raw end → Hides names s sp (b ∷ bs) (b ∷ raw) end
then_hides names s sp onto b bs raw end k n f more =
    then_gives names s sp onto b (blank b) bs (blanks raw) end
    (record { byte_is = rw k (either (is_shown s.gate) (blank b)); next_is = n; no_line = f }) more

-- a byte that stays where the text is shown
then_seen : (names : List (List ℕ)) (s : Standing) (sp onto : Spot) (b : ℕ) (bs out : List ℕ)
    (end : Result (List ℕ) Fault) → kept sp b ≡ b → next_spot sp b ≡ onto → (is_fresh sp && eqb b 35) ≡ false
    → Gives names s onto bs out end → Gives names s sp (b ∷ bs) (seen (is_shown s.gate) b ∷ out) end
then_seen names s sp onto b bs out end k n f more =
    then_gives names s sp onto b (seen (is_shown s.gate) b) bs out end
    (record { byte_is = rw k refl; next_is = n; no_line = f }) more

-- ---- lines of %

run_hidden : (names : List (List ℕ)) (s : Standing) (run bs raw : List ℕ) (end : Result (List ℕ) Fault)
    → HasNeither 10 92 run → Hides names s spot.Hidden bs raw end
    → Hides names s spot.Hidden (run ++ bs) (run ++ raw) end
run_hidden names s [] bs raw end h more = more
run_hidden names s (b ∷ run) bs raw end h more =
    let apart = both (eqb b 10) (eqb b 92) h.0 in
    then_hides names s spot.Hidden spot.Hidden b (run ++ bs) (run ++ raw) end refl (rw (apart.0, apart.1) refl) refl
    (run_hidden names s run bs raw end h.1 more)

runs_hidden : (names : List (List ℕ)) (s : Standing) (runs : List (List ℕ)) (last rest : List ℕ)
    → IsContinued runs last
    → Hides names s spot.Hidden (continued runs last ++ 10 ∷ rest) (continued runs last ++ 10 ∷ [])
    (lines names s rest)
runs_hidden names s [] last rest h =
    run_hidden names s last (10 ∷ rest) (10 ∷ []) (lines names s rest) h
    (then_hides names s spot.Hidden spot.Fresh 10 rest [] (lines names s rest) refl refl refl
    (sym (joined_none (lines names s rest))))
runs_hidden names s (run ∷ runs) last rest h =
    let bs = continued runs last in
    rw (append_assoc run (92 ∷ 10 ∷ bs) (10 ∷ rest), append_assoc run (92 ∷ 10 ∷ bs) (10 ∷ []))
    (run_hidden names s run (92 ∷ 10 ∷ (bs ++ 10 ∷ rest)) (92 ∷ 10 ∷ (bs ++ 10 ∷ [])) (lines names s rest) h.0
    (then_hides names s spot.Hidden spot.Escaped 92 (10 ∷ (bs ++ 10 ∷ rest)) (10 ∷ (bs ++ 10 ∷ []))
    (lines names s rest) refl refl refl
    (then_hides names s spot.Escaped spot.Hidden 10 (bs ++ 10 ∷ rest) (bs ++ 10 ∷ []) (lines names s rest) refl refl
    refl
    (runs_hidden names s runs last rest h.1))))

percent : (names : List (List ℕ)) (s : Standing) (runs : List (List ℕ)) (last rest : List ℕ) → IsContinued runs last
    → lines names s (37 ∷ (continued runs last ++ 10 ∷ rest))
    ≡ joined (blanks (37 ∷ (continued runs last ++ 10 ∷ []))) (lines names s rest)
percent names s runs last rest h =
    then_gives names s spot.Fresh spot.Hidden 37 32 (continued runs last ++ 10 ∷ rest)
    (blanks (continued runs last ++ 10 ∷ [])) (lines names s rest)
    (record { byte_is = either (is_shown s.gate) 32; next_is = refl; no_line = refl })
    (runs_hidden names s runs last rest h)

-- ---- lines of #

-- in a comment of a line of #, behind a star or not
abbrev in_remark : Bool → Spot
in_remark true = spot.Line part.Star
in_remark false = spot.Line part.Comment

-- among the words of such a line, behind / or not
abbrev in_words : Bool → Spot
in_words true = spot.Line part.Slash
in_words false = spot.Line part.Words

remark_next : (star : Bool) (b : ℕ) → (star && eqb b 47) ≡ false
    → next_spot (in_remark star) b ≡ in_remark (eqb b 42)
remark_next false b h = elim (test (eqb b 42)) [ inl on ↦ rw on refl | inr off ↦ rw off refl ]
remark_next true b h = elim (test (eqb b 42)) [ inl on ↦ rw (h, on) refl | inr off ↦ rw (h, off) refl ]

remark_kept : (star : Bool) (b : ℕ) → kept (in_remark star) b ≡ blank b
remark_kept true b = refl
remark_kept false b = refl

remark_late : (star : Bool) (b : ℕ) → (is_fresh (in_remark star) && eqb b 35) ≡ false
remark_late true b = refl
remark_late false b = refl

remark_hidden : (names : List (List ℕ)) (s : Standing) (star : Bool) (inside bs raw : List ℕ)
    (end : Result (List ℕ) Fault) → HasNoEnd inside → NoSlash star inside
    → Hides names s (spot.Line part.Words) bs raw end
    → Hides names s (in_remark star) (inside ++ 42 ∷ 47 ∷ bs) (inside ++ 42 ∷ 47 ∷ raw) end
remark_hidden names s true [] bs raw end h apart more =
    then_hides names s (spot.Line part.Star) (spot.Line part.Star) 42 (47 ∷ bs) (47 ∷ raw) end refl refl refl
    (then_hides names s (spot.Line part.Star) (spot.Line part.Words) 47 bs raw end refl refl refl more)
remark_hidden names s false [] bs raw end h apart more =
    then_hides names s (spot.Line part.Comment) (spot.Line part.Star) 42 (47 ∷ bs) (47 ∷ raw) end refl refl refl
    (then_hides names s (spot.Line part.Star) (spot.Line part.Words) 47 bs raw end refl refl refl more)
remark_hidden names s star (b ∷ inside) bs raw end h apart more =
    let behind = no_end_behind b inside h in
    then_hides names s (in_remark star) (in_remark (eqb b 42)) b (inside ++ 42 ∷ 47 ∷ bs) (inside ++ 42 ∷ 47 ∷ raw) end
    (remark_kept star b) (remark_next star b apart) (remark_late star b)
    (remark_hidden names s (eqb b 42) inside bs raw end behind.1 behind.0 more)

-- behind / neither * nor / comes
abbrev Apart : Bool → List ℕ → Type 0
Apart slash bs = (slash && (begins 42 bs || begins 47 bs)) ≡ false

words_next : (slash : Bool) (b : ℕ) (bs : List ℕ) → (eqb b 10 || eqb b 92) ≡ false → Apart slash (b ∷ bs)
    → next_spot (in_words slash) b ≡ in_words (eqb b 47)
words_next false b bs h apart =
    let non = both (eqb b 10) (eqb b 92) h in
    elim (test (eqb b 47)) [ inl on ↦ rw (non.0, non.1, on) refl | inr off ↦ rw (non.0, non.1, off) refl ]
words_next true b bs h apart =
    let non = both (eqb b 10) (eqb b 92) h in
    let far = both (eqb b 42) (eqb b 47) apart in
    rw (non.0, non.1, far.0, far.1) refl

words_kept : (slash : Bool) (b : ℕ) → kept (in_words slash) b ≡ blank b
words_kept true b = refl
words_kept false b = refl

words_late : (slash : Bool) (b : ℕ) → (is_fresh (in_words slash) && eqb b 35) ≡ false
words_late true b = refl
words_late false b = refl

words_end : (slash : Bool) → next_spot (in_words slash) 10 ≡ spot.Fresh
words_end true = refl
words_end false = refl

hashed_hidden : (names : List (List ℕ)) (s : Standing) (slash : Bool) (line : List Stretch) (rest : List ℕ)
    → IsHashed line (10 ∷ rest) → Apart slash (spelled line (10 ∷ rest))
    → Hides names s (in_words slash) (spelled line (10 ∷ rest)) (spelled line (10 ∷ [])) (lines names s rest)
hashed_hidden names s slash [] rest h apart =
    then_hides names s (in_words slash) spot.Fresh 10 rest [] (lines names s rest) (words_kept slash 10)
    (words_end slash) (words_late slash 10) (sym (joined_none (lines names s rest)))
hashed_hidden names s slash (Byte b ∷ line) rest h apart =
    then_hides names s (in_words slash) (in_words (eqb b 47)) b (spelled line (10 ∷ rest)) (spelled line (10 ∷ []))
    (lines names s rest) (words_kept slash b) (words_next slash b (spelled line (10 ∷ rest)) h.0 apart)
    (words_late slash b) (hashed_hidden names s (eqb b 47) line rest h.2 h.1)
hashed_hidden names s true (Comment inside ∷ line) rest h apart = absurd cc
hashed_hidden names s false (Comment inside ∷ line) rest h apart =
    let bs = spelled line (10 ∷ rest) in
    let raw = spelled line (10 ∷ []) in
    let end = lines names s rest in
    then_hides names s (spot.Line part.Words) (spot.Line part.Slash) 47 (42 ∷ (inside ++ 42 ∷ 47 ∷ bs))
    (42 ∷ (inside ++ 42 ∷ 47 ∷ raw)) end refl refl refl
    (then_hides names s (spot.Line part.Slash) (spot.Line part.Comment) 42 (inside ++ 42 ∷ 47 ∷ bs)
    (inside ++ 42 ∷ 47 ∷ raw) end refl refl refl
    (remark_hidden names s false inside bs raw end h.0 (no_slash inside)
    (hashed_hidden names s false line rest h.1 refl)))
hashed_hidden names s slash (Quoted inside ∷ line) rest h apart = absurd h

-- a line of #, by what it says
turn_of : (names : List (List ℕ)) (s : Standing) (bs : List ℕ) (d : Directive) → directive names s.defines bs ≡ d
    → lines names s (35 ∷ bs)
    ≡ with_turn (directed (stood s spot.Fresh) d (name_of_definition bs)) (suc (length bs))
    (λ next. plain_from names next bs)
unfolding plain_from
turn_of names s bs d is =
    ap (λ (e : Directive). with_turn (directed (stood s spot.Fresh) e (name_of_definition bs)) (suc (length bs))
    (λ next. plain_from names next bs)) is

-- the same, by what it does
does_so : (names : List (List ℕ)) (s : Standing) (bs : List ℕ) (d : Directive) (t : Option Turn)
    → directive names s.defines bs ≡ d → directed (stood s spot.Fresh) d (name_of_definition bs) ≡ t
    → lines names s (35 ∷ bs) ≡ with_turn t (suc (length bs)) (λ next. plain_from names next bs)
does_so names s bs d t is does =
    turn_of names s bs d is
    ∙ ap (λ (u : Option Turn). with_turn u (suc (length bs)) (λ next. plain_from names next bs)) does

-- what a line of # does, and the rest of it
hashed : (names : List (List ℕ)) (s : Standing) (g : Gate) (outer : List Gate) (own : List (List ℕ))
    (line : List Stretch) (rest : List ℕ) (d : Directive) → IsHashed line (10 ∷ rest)
    → said names s line rest ≡ d
    → directed (stood s spot.Fresh) d (name_of_definition (spelled line (10 ∷ rest)))
    ≡ Some (record {
      byte = 32;
      next = record { spot = spot.Line part.Words; gate = g; outer = outer; defines = own };
    })
    → IsBlank names s (record { spot = s.spot; gate = g; outer = outer; defines = own }) line rest
hashed names s g outer own line rest d h is does =
    let after : Standing = record { spot = s.spot; gate = g; outer = outer; defines = own } in
    does_so names s (spelled line (10 ∷ rest)) d _ is does
    ∙ (ap (λ (r : Result (List ℕ) Fault). joined (32 ∷ []) r) (hashed_hidden names after false line rest h refl)
    ∙ joined_twice (32 ∷ []) (blanks (spelled line (10 ∷ []))) (lines names after rest))

refused : (names : List (List ℕ)) (s : Standing) (rest : List ℕ) (d : Directive)
    → directive names s.defines rest ≡ d → directed (stood s spot.Fresh) d (name_of_definition rest) ≡ None
    → IsRefused names s rest
refused names s rest d is does = does_so names s rest d None is does

opens : (names : List (List ℕ)) (s : Standing) (holds : Bool) (line : List Stretch) (rest : List ℕ)
    → IsHashed line (10 ∷ rest) → said names s line rest ≡ say.Section (Some holds)
    → IsBlank names s (record s { gate = opened s.gate holds; outer = s.gate ∷ s.outer }) line rest
opens names s holds line rest h is =
    hashed names s (opened s.gate holds) (s.gate ∷ s.outer) s.defines line rest (say.Section (Some holds)) h is refl

opens_hidden : (names : List (List ℕ)) (s : Standing) (line : List Stretch) (rest : List ℕ)
    → IsHashed line (10 ∷ rest) → said names s line rest ≡ say.Section None → is_shown s.gate ≡ false
    → IsBlank names s (record s { gate = gate.Dead; outer = s.gate ∷ s.outer }) line rest
opens_hidden names s line rest h is off =
    hashed names s gate.Dead (s.gate ∷ s.outer) s.defines line rest (say.Section None) h is (rw off refl)

turns : (names : List (List ℕ)) (s : Standing) (g : Gate) (line : List Stretch) (rest : List ℕ)
    → IsHashed line (10 ∷ rest) → said names s line rest ≡ say.Otherwise → turned s.gate ≡ Some g
    → IsBlank names s (record s { gate = g }) line rest
turns names s g line rest h is to = hashed names s g s.outer s.defines line rest say.Otherwise h is (rw to refl)

turns_if : (names : List (List ℕ)) (s : Standing) (holds : Option Bool) (g : Gate) (line : List Stretch)
    (rest : List ℕ) → IsHashed line (10 ∷ rest) → said names s line rest ≡ say.OtherwiseIf holds
    → turned_if s.gate holds ≡ Some g → IsBlank names s (record s { gate = g }) line rest
turns_if names s holds g line rest h is to =
    hashed names s g s.outer s.defines line rest (say.OtherwiseIf holds) h is (rw to refl)

goes_back : (names : List (List ℕ)) (s : Standing) (g : Gate) (gs : List Gate) (line : List Stretch) (rest : List ℕ)
    → IsHashed line (10 ∷ rest) → said names s line rest ≡ say.End → s.outer ≡ g ∷ gs
    → IsBlank names s (record s { gate = g; outer = gs }) line rest
goes_back names s g gs line rest h is to = hashed names s g gs s.defines line rest say.End h is (rw to refl)

no_condition : (names : List (List ℕ)) (s : Standing) (rest : List ℕ)
    → directive names s.defines rest ≡ say.Section None → is_shown s.gate ≡ true → IsRefused names s rest
no_condition names s rest is shown = refused names s rest (say.Section None) is (rw shown refl)

no_turn : (names : List (List ℕ)) (s : Standing) (rest : List ℕ) → directive names s.defines rest ≡ say.Otherwise
    → turned s.gate ≡ None → IsRefused names s rest
no_turn names s rest is to = refused names s rest say.Otherwise is (rw to refl)

no_turn_if : (names : List (List ℕ)) (s : Standing) (holds : Option Bool) (rest : List ℕ)
    → directive names s.defines rest ≡ say.OtherwiseIf holds → turned_if s.gate holds ≡ None → IsRefused names s rest
no_turn_if names s holds rest is to = refused names s rest (say.OtherwiseIf holds) is (rw to refl)

no_section : (names : List (List ℕ)) (s : Standing) (rest : List ℕ) → directive names s.defines rest ≡ say.End
    → s.outer ≡ [] → IsRefused names s rest
no_section names s rest is to = refused names s rest say.End is (rw to refl)

no_other : (names : List (List ℕ)) (s : Standing) (rest : List ℕ) → directive names s.defines rest ≡ say.Other
    → is_shown s.gate ≡ true → IsRefused names s rest
no_other names s rest is shown = refused names s rest say.Other is (rw shown refl)

name : (names : List (List ℕ)) (s : Standing) (line : List Stretch) (rest : List ℕ)
    → IsHashed line (10 ∷ rest) → said names s line rest ≡ say.Definition false → is_shown s.gate ≡ true
    → IsBlank names s (naming s line rest) line rest
name names s line rest h is shown =
    hashed names s s.gate s.outer (naming s line rest).defines line rest (say.Definition false) h is (rw shown refl)

hidden_definition : (names : List (List ℕ)) (s : Standing) (number : Bool) (line : List Stretch) (rest : List ℕ)
    → IsHashed line (10 ∷ rest) → said names s line rest ≡ say.Definition number → is_shown s.gate ≡ false
    → IsBlank names s s line rest
hidden_definition names s number line rest h is off =
    hashed names s s.gate s.outer s.defines line rest (say.Definition number) h is (rw off refl)

nothing : (names : List (List ℕ)) (s : Standing) (line : List Stretch) (rest : List ℕ) → IsHashed line (10 ∷ rest)
    → said names s line rest ≡ say.Nothing → IsBlank names s s line rest
nothing names s line rest h is = hashed names s s.gate s.outer s.defines line rest say.Nothing h is refl

other : (names : List (List ℕ)) (s : Standing) (line : List Stretch) (rest : List ℕ) → IsHashed line (10 ∷ rest)
    → said names s line rest ≡ say.Other → is_shown s.gate ≡ false → IsBlank names s s line rest
other names s line rest h is off = hashed names s s.gate s.outer s.defines line rest say.Other h is (rw off refl)

-- ---- other lines

-- in the text, behind / or not
abbrev in_text : Bool → Spot
in_text true = spot.Slash
in_text false = spot.Text

text_next : (slash : Bool) (b : ℕ) (bs : List ℕ) → (eqb b 10 || eqb b 34) ≡ false
    → (slash && begins 42 (b ∷ bs)) ≡ false → next_spot (in_text slash) b ≡ in_text (eqb b 47)
text_next false b bs h apart =
    let non = both (eqb b 10) (eqb b 34) h in
    elim (test (eqb b 47)) [ inl on ↦ rw (non.0, on) refl | inr off ↦ rw (non.0, non.1, off) refl ]
text_next true b bs h apart =
    let non = both (eqb b 10) (eqb b 34) h in
    elim (test (eqb b 47)) [ inl on ↦ rw (apart, non.0, on) refl | inr off ↦ rw (apart, non.0, non.1, off) refl ]

text_kept : (slash : Bool) (b : ℕ) → (eqb b 10 || eqb b 34) ≡ false → kept (in_text slash) b ≡ b
text_kept true b h = rw ((both (eqb b 10) (eqb b 34) h).1) refl
text_kept false b h = rw ((both (eqb b 10) (eqb b 34) h).1) refl

text_late : (slash : Bool) (b : ℕ) → (is_fresh (in_text slash) && eqb b 35) ≡ false
text_late true b = refl
text_late false b = refl

-- in a comment, behind a star or not
abbrev in_comment : Bool → Spot
in_comment true = spot.Star
in_comment false = spot.Comment

comment_next : (star : Bool) (b : ℕ) → (star && eqb b 47) ≡ false
    → next_spot (in_comment star) b ≡ in_comment (eqb b 42)
comment_next false b h = elim (test (eqb b 42)) [ inl on ↦ rw on refl | inr off ↦ rw off refl ]
comment_next true b h = elim (test (eqb b 42)) [ inl on ↦ rw (h, on) refl | inr off ↦ rw (h, off) refl ]

comment_kept : (star : Bool) (b : ℕ) → kept (in_comment star) b ≡ b
comment_kept true b = refl
comment_kept false b = refl

comment_late : (star : Bool) (b : ℕ) → (is_fresh (in_comment star) && eqb b 35) ≡ false
comment_late true b = refl
comment_late false b = refl

comment_seen : (names : List (List ℕ)) (s : Standing) (star : Bool) (inside bs out : List ℕ)
    (end : Result (List ℕ) Fault) → HasNoEnd inside → NoSlash star inside → Gives names s spot.Text bs out end
    → Gives names s (in_comment star) (inside ++ 42 ∷ 47 ∷ bs)
    (map (seen (is_shown s.gate)) inside ++ seen (is_shown s.gate) 42 ∷ seen (is_shown s.gate) 47 ∷ out) end
comment_seen names s true [] bs out end h apart more =
    then_seen names s spot.Star spot.Star 42 (47 ∷ bs) (seen (is_shown s.gate) 47 ∷ out) end refl refl refl
    (then_seen names s spot.Star spot.Text 47 bs out end refl refl refl more)
comment_seen names s false [] bs out end h apart more =
    then_seen names s spot.Comment spot.Star 42 (47 ∷ bs) (seen (is_shown s.gate) 47 ∷ out) end refl refl refl
    (then_seen names s spot.Star spot.Text 47 bs out end refl refl refl more)
comment_seen names s star (b ∷ inside) bs out end h apart more =
    let behind = no_end_behind b inside h in
    then_seen names s (in_comment star) (in_comment (eqb b 42)) b (inside ++ 42 ∷ 47 ∷ bs)
    (map (seen (is_shown s.gate)) inside ++ seen (is_shown s.gate) 42 ∷ seen (is_shown s.gate) 47 ∷ out) end
    (comment_kept star b) (comment_next star b apart) (comment_late star b)
    (comment_seen names s (eqb b 42) inside bs out end behind.1 behind.0 more)

-- what stays of a quotation mark
abbrev mark_of : Bool → ℕ
mark_of shown = if shown then 61 else 32

quoted_seen : (names : List (List ℕ)) (s : Standing) (inside bs out : List ℕ) (end : Result (List ℕ) Fault)
    → HasNeither 10 34 inside → Gives names s spot.Text bs out end
    → Gives names s spot.Quoted (inside ++ 34 ∷ bs) (blanks inside ++ mark_of (is_shown s.gate) ∷ out) end
quoted_seen names s [] bs out end h more =
    then_gives names s spot.Quoted spot.Text 34 (mark_of (is_shown s.gate)) bs out end
    (record { byte_is = refl; next_is = refl; no_line = refl }) more
quoted_seen names s (b ∷ inside) bs out end h more =
    let non = both (eqb b 10) (eqb b 34) h.0 in
    then_gives names s spot.Quoted spot.Quoted b (blank b) (inside ++ 34 ∷ bs)
    (blanks inside ++ mark_of (is_shown s.gate) ∷ out) end
    (record {
      byte_is = rw non.1 (either (is_shown s.gate) (blank b));
      next_is = rw (non.0, non.1) refl;
      no_line = refl;
    }) (quoted_seen names s inside bs out end h.1 more)

-- what is left of a comment behind its /
abbrev remark_of : Bool → (inside out : List ℕ) → List ℕ
remark_of shown inside out = seen shown 42 ∷ (map (seen shown) inside ++ seen shown 42 ∷ seen shown 47 ∷ out)

behind_slash : (names : List (List ℕ)) (s : Standing) (inside : List ℕ) (line : List Stretch) (rest : List ℕ)
    → HasNoEnd inside
    → Gives names s spot.Text (spelled line (10 ∷ rest)) (left_of (is_shown s.gate) line (10 ∷ []))
    (lines names s rest)
    → Gives names s spot.Slash (42 ∷ (inside ++ 42 ∷ 47 ∷ spelled line (10 ∷ rest)))
    (remark_of (is_shown s.gate) inside (left_of (is_shown s.gate) line (10 ∷ []))) (lines names s rest)
behind_slash names s inside line rest h more =
    let out = left_of (is_shown s.gate) line (10 ∷ []) in
    then_seen names s spot.Slash spot.Comment 42 (inside ++ 42 ∷ 47 ∷ spelled line (10 ∷ rest))
    (map (seen (is_shown s.gate)) inside ++ seen (is_shown s.gate) 42 ∷ seen (is_shown s.gate) 47 ∷ out)
    (lines names s rest) refl refl refl
    (comment_seen names s false inside (spelled line (10 ∷ rest)) out (lines names s rest) h (no_slash inside) more)

written : (names : List (List ℕ)) (s : Standing) (slash : Bool) (line : List Stretch) (rest : List ℕ)
    → IsWritten line (10 ∷ rest) → (slash && begins 42 (spelled line (10 ∷ rest))) ≡ false
    → Gives names s (in_text slash) (spelled line (10 ∷ rest)) (left_of (is_shown s.gate) line (10 ∷ []))
    (lines names s rest)
written names s true [] rest h apart =
    then_gives names s spot.Slash spot.Fresh 10 10 rest [] (lines names s rest)
    (record { byte_is = either (is_shown s.gate) 10; next_is = refl; no_line = refl })
    (sym (joined_none (lines names s rest)))
written names s false [] rest h apart =
    then_gives names s spot.Text spot.Fresh 10 10 rest [] (lines names s rest)
    (record { byte_is = either (is_shown s.gate) 10; next_is = refl; no_line = refl })
    (sym (joined_none (lines names s rest)))
written names s slash (Byte b ∷ line) rest h apart =
    then_seen names s (in_text slash) (in_text (eqb b 47)) b (spelled line (10 ∷ rest))
    (left_of (is_shown s.gate) line (10 ∷ [])) (lines names s rest) (text_kept slash b h.0)
    (text_next slash b (spelled line (10 ∷ rest)) h.0 apart) (text_late slash b)
    (written names s (eqb b 47) line rest h.2 h.1)
written names s true (Comment inside ∷ line) rest h apart =
    then_seen names s spot.Slash spot.Slash 47 (42 ∷ (inside ++ 42 ∷ 47 ∷ spelled line (10 ∷ rest)))
    (remark_of (is_shown s.gate) inside (left_of (is_shown s.gate) line (10 ∷ []))) (lines names s rest) refl refl refl
    (behind_slash names s inside line rest h.0 (written names s false line rest h.1 refl))
written names s false (Comment inside ∷ line) rest h apart =
    then_seen names s spot.Text spot.Slash 47 (42 ∷ (inside ++ 42 ∷ 47 ∷ spelled line (10 ∷ rest)))
    (remark_of (is_shown s.gate) inside (left_of (is_shown s.gate) line (10 ∷ []))) (lines names s rest) refl refl refl
    (behind_slash names s inside line rest h.0 (written names s false line rest h.1 refl))
written names s true (Quoted inside ∷ line) rest h apart =
    then_gives names s spot.Slash spot.Quoted 34 (mark_of (is_shown s.gate)) (inside ++ 34 ∷ spelled line (10 ∷ rest))
    (blanks inside ++ mark_of (is_shown s.gate) ∷ left_of (is_shown s.gate) line (10 ∷ [])) (lines names s rest)
    (record { byte_is = refl; next_is = refl; no_line = refl })
    (quoted_seen names s inside (spelled line (10 ∷ rest)) (left_of (is_shown s.gate) line (10 ∷ []))
    (lines names s rest) h.0 (written names s false line rest h.1 refl))
written names s false (Quoted inside ∷ line) rest h apart =
    then_gives names s spot.Text spot.Quoted 34 (mark_of (is_shown s.gate)) (inside ++ 34 ∷ spelled line (10 ∷ rest))
    (blanks inside ++ mark_of (is_shown s.gate) ∷ left_of (is_shown s.gate) line (10 ∷ [])) (lines names s rest)
    (record { byte_is = refl; next_is = refl; no_line = refl })
    (quoted_seen names s inside (spelled line (10 ∷ rest)) (left_of (is_shown s.gate) line (10 ∷ []))
    (lines names s rest) h.0 (written names s false line rest h.1 refl))

first_apart : (a b c : Bool) → (a || b || c) ≡ false → (a ≡ false) × (b ≡ false) × (c ≡ false)
first_apart false false false h = (refl, refl, refl)
first_apart true b c h = absurd cc
first_apart false true c h = absurd cc
first_apart false false true h = absurd cc

text : (names : List (List ℕ)) (s : Standing) (line : List Stretch) (rest : List ℕ) → IsWritten line (10 ∷ rest)
    → BeginsText (spelled line (10 ∷ []))
    → lines names s (spelled line (10 ∷ rest)) ≡ joined (left_of (is_shown s.gate) line (10 ∷ [])) (lines names s rest)
text names s [] rest h first = absurd cc
text names s (Byte b ∷ line) rest h first =
    let non = first_apart (is_space b) (eqb b 37) (eqb b 35) first in
    let off = both (eqb b 10) (eqb b 34) h.0 in
    then_seen names s spot.Fresh (in_text (eqb b 47)) b (spelled line (10 ∷ rest))
    (left_of (is_shown s.gate) line (10 ∷ [])) (lines names s rest) (rw (non.1, off.1) refl)
    (rw (non.0, non.1) (text_next false b (spelled line (10 ∷ rest)) h.0 refl)) non.2
    (written names s (eqb b 47) line rest h.2 h.1)
text names s (Comment inside ∷ line) rest h first =
    then_seen names s spot.Fresh spot.Slash 47 (42 ∷ (inside ++ 42 ∷ 47 ∷ spelled line (10 ∷ rest)))
    (remark_of (is_shown s.gate) inside (left_of (is_shown s.gate) line (10 ∷ []))) (lines names s rest) refl refl refl
    (behind_slash names s inside line rest h.0 (written names s false line rest h.1 refl))
text names s (Quoted inside ∷ line) rest h first =
    then_gives names s spot.Fresh spot.Quoted 34 (mark_of (is_shown s.gate)) (inside ++ 34 ∷ spelled line (10 ∷ rest))
    (blanks inside ++ mark_of (is_shown s.gate) ∷ left_of (is_shown s.gate) line (10 ∷ [])) (lines names s rest)
    (record { byte_is = refl; next_is = refl; no_line = refl })
    (quoted_seen names s inside (spelled line (10 ∷ rest)) (left_of (is_shown s.gate) line (10 ∷ []))
    (lines names s rest) h.0 (written names s false line rest h.1 refl))

number : (names : List (List ℕ)) (s : Standing) (line : List Stretch) (rest : List ℕ) → IsWritten line (10 ∷ rest)
    → said names s line rest ≡ say.Definition true → is_shown s.gate ≡ true
    → lines names s (35 ∷ spelled line (10 ∷ rest))
    ≡ joined (61 ∷ left_of true line (10 ∷ [])) (lines names (naming s line rest) rest)
number names s line rest h is shown =
    let after : Standing = naming s line rest in
    let behind = subst (λ (v : Bool). Gives names after spot.Text (spelled line (10 ∷ rest))
    (left_of v line (10 ∷ [])) (lines names after rest)) shown (written names after false line rest h refl) in
    does_so names s (spelled line (10 ∷ rest)) (say.Definition true)
    (Some (record { byte = 61; next = stood after spot.Text })) is (rw shown refl)
    ∙ (ap (λ (r : Result (List ℕ) Fault). joined (61 ∷ []) r) behind
    ∙ joined_twice (61 ∷ []) (left_of true line (10 ∷ [])) (lines names after rest))

space : (names : List (List ℕ)) (s : Standing) (b : ℕ) (rest : List ℕ) → is_space b ≡ true
    → lines names s (b ∷ rest) ≡ joined (seen (is_shown s.gate) b ∷ []) (lines names s rest)
space names s b rest h =
    let a = space_apart b h in
    then_seen names s spot.Fresh spot.Fresh b rest [] (lines names s rest) (rw (a.2, a.0) refl) (rw h refl) a.1
    (sym (joined_none (lines names s rest)))

at_end : (names : List (List ℕ)) (s : Standing) → s.outer ≡ [] → lines names s [] ≡ Ok []
unfolding plain_from
at_end names s none = rw none refl

at_open : (names : List (List ℕ)) (s : Standing) (g : Gate) (gs : List Gate) → s.outer ≡ g ∷ gs
    → lines names s [] ≡ Err (fault.Refused wrong.Unexpected 0)
unfolding plain_from
at_open names s g gs some = rw some refl

-- ---- between the words of a line of #

-- in a comment there, behind a star or not
abbrev in_gap : Bool → Part
in_gap true = part.Star
in_gap false = part.Comment

gap_next : (star : Bool) (b : ℕ) → (star && eqb b 47) ≡ false → next_part (in_gap star) b ≡ in_gap (eqb b 42)
gap_next false b h = elim (test (eqb b 42)) [ inl on ↦ rw on refl | inr off ↦ rw off refl ]
gap_next true b h = elim (test (eqb b 42)) [ inl on ↦ rw (h, on) refl | inr off ↦ rw (h, off) refl ]

gap_end : (star : Bool) (inside bs : List ℕ) → HasNoEnd inside → NoSlash star inside
    → after_blanks_from (in_gap star) (inside ++ 42 ∷ 47 ∷ bs) ≡ after_blanks bs
unfolding after_blanks_from
gap_end true [] bs h apart = refl
gap_end false [] bs h apart = refl
gap_end true (b ∷ inside) bs h apart =
    let behind = no_end_behind b inside h in
    ap (λ (p : Part). after_blanks_from p (inside ++ 42 ∷ 47 ∷ bs)) (gap_next true b apart)
    ∙ gap_end (eqb b 42) inside bs behind.1 behind.0
gap_end false (b ∷ inside) bs h apart =
    let behind = no_end_behind b inside h in
    ap (λ (p : Part). after_blanks_from p (inside ++ 42 ∷ 47 ∷ bs)) (gap_next false b apart)
    ∙ gap_end (eqb b 42) inside bs behind.1 behind.0

gap_space : (bs : List ℕ) → after_blanks (32 ∷ bs) ≡ after_blanks bs
unfolding after_blanks_from
gap_space bs = refl

gap_tab : (bs : List ℕ) → after_blanks (9 ∷ bs) ≡ after_blanks bs
unfolding after_blanks_from
gap_tab bs = refl

gap_comment : (inside bs : List ℕ) → HasNoEnd inside
    → after_blanks (47 ∷ 42 ∷ (inside ++ 42 ∷ 47 ∷ bs)) ≡ after_blanks bs
unfolding after_blanks_from
gap_comment inside bs h = gap_end false inside bs h (no_slash inside)

closes_step : (sp onto : Spot) (b : ℕ) (bs : List ℕ) (v : Bool) → next_spot sp b ≡ onto → is_line onto ≡ true
    → closes_from onto bs ≡ v → closes_from sp (b ∷ bs) ≡ v
unfolding closes_from
closes_step sp onto b bs v n l more = rw (n, l) more

remark_line : (star : Bool) → is_line (in_remark star) ≡ true
remark_line true = refl
remark_line false = refl

words_line : (slash : Bool) → is_line (in_words slash) ≡ true
words_line true = refl
words_line false = refl

remark_closes : (star : Bool) (inside bs : List ℕ) (v : Bool) → HasNoEnd inside → NoSlash star inside
    → closes_from (spot.Line part.Words) bs ≡ v → closes_from (in_remark star) (inside ++ 42 ∷ 47 ∷ bs) ≡ v
remark_closes true [] bs v h apart more =
    closes_step (spot.Line part.Star) (spot.Line part.Star) 42 (47 ∷ bs) v refl refl
    (closes_step (spot.Line part.Star) (spot.Line part.Words) 47 bs v refl refl more)
remark_closes false [] bs v h apart more =
    closes_step (spot.Line part.Comment) (spot.Line part.Star) 42 (47 ∷ bs) v refl refl
    (closes_step (spot.Line part.Star) (spot.Line part.Words) 47 bs v refl refl more)
remark_closes star (b ∷ inside) bs v h apart more =
    let behind = no_end_behind b inside h in
    closes_step (in_remark star) (in_remark (eqb b 42)) b (inside ++ 42 ∷ 47 ∷ bs) v (remark_next star b apart)
    (remark_line (eqb b 42)) (remark_closes (eqb b 42) inside bs v behind.1 behind.0 more)

remark_opens : (star : Bool) (inside : List ℕ) → HasNoEnd inside → NoSlash star inside
    → closes_from (in_remark star) inside ≡ false
unfolding closes_from
remark_opens true [] h apart = refl
remark_opens false [] h apart = refl
remark_opens star (b ∷ inside) h apart =
    let behind = no_end_behind b inside h in
    closes_step (in_remark star) (in_remark (eqb b 42)) b inside false (remark_next star b apart)
    (remark_line (eqb b 42)) (remark_opens (eqb b 42) inside behind.1 behind.0)

hashed_closes : (slash : Bool) (line : List Stretch) (bs : List ℕ) (v : Bool) → IsHashed line bs
    → Apart slash (spelled line bs) → ((last : Bool) → Apart last bs → closes_from (in_words last) bs ≡ v)
    → closes_from (in_words slash) (spelled line bs) ≡ v
hashed_closes slash [] bs v h apart more = more slash apart
hashed_closes slash (Byte b ∷ line) bs v h apart more =
    closes_step (in_words slash) (in_words (eqb b 47)) b (spelled line bs) v
    (words_next slash b (spelled line bs) h.0 apart) (words_line (eqb b 47))
    (hashed_closes (eqb b 47) line bs v h.2 h.1 more)
hashed_closes true (Comment inside ∷ line) bs v h apart more = absurd cc
hashed_closes false (Comment inside ∷ line) bs v h apart more =
    closes_step (spot.Line part.Words) (spot.Line part.Slash) 47 (42 ∷ (inside ++ 42 ∷ 47 ∷ spelled line bs)) v refl
    refl
    (closes_step (spot.Line part.Slash) (spot.Line part.Comment) 42 (inside ++ 42 ∷ 47 ∷ spelled line bs) v refl refl
    (remark_closes false inside (spelled line bs) v h.0 (no_slash inside)
    (hashed_closes false line bs v h.1 refl more)))
hashed_closes slash (Quoted inside ∷ line) bs v h apart more = absurd h

closed_end : (rest : List ℕ) (last : Bool) → closes_from (in_words last) (10 ∷ rest) ≡ true
unfolding closes_from
closed_end rest true = refl
closed_end rest false = refl

closed : (line : List Stretch) (rest : List ℕ) → IsHashed line (10 ∷ rest) → closes (spelled line (10 ∷ rest)) ≡ true
closed line rest h = hashed_closes false line (10 ∷ rest) true h refl (λ last apart. closed_end rest last)

unclosed_end : (inside : List ℕ) (last : Bool) → HasNoEnd inside → Apart last (47 ∷ 42 ∷ inside)
    → closes_from (in_words last) (47 ∷ 42 ∷ inside) ≡ false
unclosed_end inside true h apart = absurd cc
unclosed_end inside false h apart =
    closes_step (spot.Line part.Words) (spot.Line part.Slash) 47 (42 ∷ inside) false refl refl
    (closes_step (spot.Line part.Slash) (spot.Line part.Comment) 42 inside false refl refl
    (remark_opens false inside h (no_slash inside)))

unclosed : (line : List Stretch) (inside : List ℕ) → IsHashed line (47 ∷ 42 ∷ inside) → HasNoEnd inside
    → closes (spelled line (47 ∷ 42 ∷ inside)) ≡ false
unclosed line inside h ends =
    hashed_closes false line (47 ∷ 42 ∷ inside) false h refl (λ last apart. unclosed_end inside last ends apart)

-- ---- all of them

pub texts : Texts
texts = record { space = space; percent = percent; text = text; ends = at_end; is_open = at_open }

pub sections : Sections
sections = record {
  opens = opens;
  opens_hidden = opens_hidden;
  turns = turns;
  turns_if = turns_if;
  goes_back = goes_back;
  no_condition = no_condition;
  no_turn = no_turn;
  no_turn_if = no_turn_if;
  no_section = no_section;
}

pub hashes : Hashes
hashes = record {
  number = number;
  name = name;
  hidden = hidden_definition;
  nothing = nothing;
  other = other;
  no_other = no_other;
}

pub gaps : Gaps
gaps = record {
  space = gap_space;
  tab = gap_tab;
  comment = gap_comment;
  closed = closed;
  unclosed = unclosed;
}
