-- Completeness of the bodies of unions.
use Rattle.std.proofs.Common.{◌≡◌, ℕ, zero, suc, ◌≤◌, ◌<◌, max, true, false, List, [], ◌∷◌, length, map, Some, None}
use Rattle.std.proofs.Common.{refl, sym, ap, ◌∙◌, arith}
use Rattle.xdr_tokens.specs.declared.token.Keyword.TheVariants as word
use Rattle.xdr_tokens.specs.declared.token.Mark.TheVariants as mark
use Rattle.xdr_tokens.specs.Tokens.{Lexeme, Word, Sign}
use Rattle.xdr_grammar.specs.Tree.{Value, UnionBody, Declaration, Content, Cases, LastCase, MoreCases, Default}
use Rattle.xdr_grammar.specs.Tree.{NoDefault, Otherwise, depth_of_declaration, depth_of_content, depth_of_cases}
use Rattle.xdr_grammar.specs.Tree.{depth_of_default}
use Rattle.xdr_grammar.specs.Grammar.{value, cases, body, declaration, content, arms, otherwise}
use Rattle.xdr_grammar.specs.Outline.{Field, Outline, late, body_in, declaration_in, content_in, arms_in, default_in}
use Rattle.xdr_grammar.specs.Private.Taking.{taken, after_word, after_sign}
use Rattle.xdr_grammar.specs.Private.Reading.{Reader, repeat, content_with, case_at, arm_with, default_with}
use Rattle.xdr_grammar.specs.Private.Reading.{switch_with, union_with}
use Rattle.xdr_grammar.proofs.Leaves.{value_again}
use Rattle.xdr_grammar.proofs.Found.Unions.{after_case, begins_case}
use Rattle.xdr_grammar.proofs.Again.Begins.{ends_semicolon, ends_round, content_not_case, semicolon_again, close_again}
use Rattle.xdr_grammar.proofs.Again.Begins.{case_word}
use Rattle.xdr_grammar.proofs.Again.Long.{cases_long, count_cases, arms_long, default_long}
use Rattle.xdr_grammar.proofs.Again.Declarations.{RereadsDeclarations, RereadsContents, content_again}

case_more : (v : Value) (o : Outline) (ts : List Lexeme)
    → case_at o (value v ∷ Sign mark.Colon ∷ Word word.Case ∷ ts) ≡ Some ((late o v, true), o, ts)
unfolding case_at after_sign after_word
case_more v o ts = rw (value_again o v (Sign mark.Colon ∷ Word word.Case ∷ ts)) refl

colon_again : (ts : List Lexeme) → after_sign mark.Colon (Sign mark.Colon ∷ ts) ≡ Some ts
unfolding after_sign
colon_again ts = refl

case_last : (v : Value) (o : Outline) (ts : List Lexeme) → after_word word.Case ts ≡ None
    → case_at o (value v ∷ Sign mark.Colon ∷ ts) ≡ Some ((late o v, false), o, ts)
unfolding case_at
case_last v o ts none = rw (value_again o v (Sign mark.Colon ∷ ts), colon_again ts, none) refl

cases_again : (n : ℕ) (v : Value) (vs : List Value) (o : Outline) (ts : List Lexeme) → length vs < n
    → after_word word.Case ts ≡ None
    → repeat case_at n o (value v ∷ Sign mark.Colon ∷ cases vs ts) ≡ Some (map (late o) (v ∷ vs), o, ts)
unfolding repeat
cases_again zero v vs o ts few none = absurd (omega arith)
cases_again (suc n) v [] o ts few none = rw (case_last v o ts none) refl
cases_again (suc n) v (w ∷ vs) o ts few none =
    let first = case_more v o (value w ∷ Sign mark.Colon ∷ cases vs ts) in
    let rest = cases_again n w vs o ts (omega arith) none in
    rw (first, rest) refl

module _ (d : ℕ) (reader : Reader Field) (rereads : RereadsContents d reader) where
  -- as far as the mark after the arm
  arm_begun : (v : Value) (vs : List Value) (m : Content) (o : Outline) (ts : List Lexeme) → depth_of_content m ≤ d
      → arm_with reader o (value v ∷ Sign mark.Colon ∷ cases vs (content m (Sign mark.Semicolon ∷ ts))) ≡ taken
      (after_word word.Case ts)
      (λ rest. Some (
        (record { cases = map (late o) (v ∷ vs); member = (content_in m o).0 }, true),
        (content_in m o).1,
        rest,
      ))
      (Some (
        (record { cases = map (late o) (v ∷ vs); member = (content_in m o).0 }, false),
        (content_in m o).1,
        ts,
      ))
  unfolding arm_with
  arm_begun v vs m o ts fits =
      let rest = content m (Sign mark.Semicolon ∷ ts) in
      let all = cases_again (length (value v ∷ Sign mark.Colon ∷ cases vs rest)) v vs o rest
      (omega (arith, cases_long vs rest)) (content_not_case m (Sign mark.Semicolon ∷ ts)) in
      rw (all, rereads m o (Sign mark.Semicolon ∷ ts) fits (ends_semicolon ts), semicolon_again ts) refl

  arms_again : (n : ℕ) (cs : Cases) (o : Outline) (ts : List Lexeme) → count_cases cs ≤ n → depth_of_cases cs ≤ d
      → after_word word.Case ts ≡ None
      → repeat (arm_with reader) n o (after_case cs ts) ≡ Some ((arms_in cs o).0, (arms_in cs o).1, ts)
  unfolding repeat
  arms_again zero (LastCase v vs m) o ts few fits none = absurd (omega arith)
  arms_again zero (MoreCases v vs m cs) o ts few fits none = absurd (omega arith)
  arms_again (suc n) (LastCase v vs m) o ts few fits none = rw (arm_begun v vs m o ts fits, none) refl
  arms_again (suc n) (MoreCases v vs m cs) o ts few fits none =
      let first = arm_begun v vs m o (arms cs ts) (omega arith) in
      let next : after_word word.Case (arms cs ts) ≡ Some (after_case cs ts) = ap (after_word word.Case)
      (begins_case cs ts) ∙ case_word (after_case cs ts) in
      let rest = arms_again n cs (content_in m o).1 ts (omega arith) (omega arith) none in
      rw (first, next, rest) refl

  default_again : (t : Default) (o : Outline) (ts : List Lexeme) → depth_of_default t ≤ d
      → default_with reader o (otherwise t (Sign mark.CloseBrace ∷ ts)) ≡ Some (
        (default_in t o).0,
        (default_in t o).1,
        Sign mark.CloseBrace ∷ ts,
      )
  unfolding default_with after_word after_sign
  default_again NoDefault o ts fits = refl
  default_again (Otherwise m) o ts fits = rw
      (rereads m o (Sign mark.Semicolon ∷ Sign mark.CloseBrace ∷ ts) fits (ends_semicolon (Sign mark.CloseBrace ∷ ts)))
      refl

default_not_case : (t : Default) (ts : List Lexeme)
    → after_word word.Case (otherwise t (Sign mark.CloseBrace ∷ ts)) ≡ None
unfolding after_word
default_not_case NoDefault ts = refl
default_not_case (Otherwise m) ts = refl

module _ (d : ℕ) (reader : Reader Field) (rereads : RereadsDeclarations d reader) where
  switch_again : (t : Declaration) (o : Outline) (ts : List Lexeme) → depth_of_declaration t ≤ d
      → switch_with reader o
      (Word word.Switch ∷ Sign mark.OpenRound ∷ declaration t
      (Sign mark.CloseRound ∷ Sign mark.OpenBrace ∷ Word word.Case ∷ ts)) ≡ Some
      ((declaration_in t o).0, (declaration_in t o).1, ts)
  unfolding switch_with after_word after_sign
  switch_again t o ts fits = rw (rereads t o (Sign mark.CloseRound ∷ Sign mark.OpenBrace ∷ Word word.Case ∷ ts) fits
      (ends_round (Sign mark.OpenBrace ∷ Word word.Case ∷ ts))) refl

  pub union_again : (t : Declaration) (cs : Cases) (e : Default) (o : Outline) (ts : List Lexeme)
      → max (depth_of_declaration t) (max (depth_of_cases cs) (depth_of_default e)) ≤ d
      → union_with reader o (body (UnionBody t cs e) ts) ≡ Some (
        (body_in (UnionBody t cs e) o).0,
        (body_in (UnionBody t cs e) o).1,
        ts,
      )
  unfolding union_with
  union_again t cs e o ts fits =
      let end = otherwise e (Sign mark.CloseBrace ∷ ts) in
      let contents = content_again d reader rereads in
      let o1 = (declaration_in t o).1 in
      let o2 = (arms_in cs o1).1 in
      let begun : Word word.Switch ∷ Sign mark.OpenRound ∷ declaration t
      (Sign mark.CloseRound ∷ Sign mark.OpenBrace ∷ arms cs end) ≡ Word word.Switch ∷ Sign mark.OpenRound ∷
      declaration t (Sign mark.CloseRound ∷ Sign mark.OpenBrace ∷ Word word.Case ∷ after_case cs end) = ap
      (λ (x : List Lexeme). Word word.Switch ∷ Sign mark.OpenRound ∷ declaration t
      (Sign mark.CloseRound ∷ Sign mark.OpenBrace ∷ x)) (begins_case cs end) in
      let tag = ap (switch_with reader o) begun ∙ switch_again t o (after_case cs end) (omega arith) in
      let long : suc (length (after_case cs end)) ≡ length (arms cs end) = ap length (sym (begins_case cs end)) in
      let all = arms_again d (content_with reader) contents (length (after_case cs end)) cs o1 end
      (omega (arith, long, arms_long cs end, default_long e (Sign mark.CloseBrace ∷ ts))) (omega arith)
      (default_not_case e ts) in
      let other = default_again d (content_with reader) contents e o2 ts (omega arith) in
      rw (tag, all, other, close_again ts) refl
