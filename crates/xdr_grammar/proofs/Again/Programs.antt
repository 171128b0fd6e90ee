-- Completeness of programs, their versions and procedures.
use Rattle.std.proofs.Common.{◌≡◌, ℕ, zero, suc, ◌≤◌, ◌+◌, ◌<◌, max, true, false, ℤ, List, [], ◌∷◌, length, Option}
use Rattle.std.proofs.Common.{Some, None, refl, arith}
use Rattle.xdr_tokens.specs.declared.token.Keyword.TheVariants as word
use Rattle.xdr_tokens.specs.declared.token.Mark.TheVariants as mark
use Rattle.xdr_tokens.specs.Tokens.{Lexeme, Name, Number, Sign}
use Rattle.xdr_grammar.specs.Tree as tree
use Rattle.xdr_grammar.specs.Tree.{Passed, AnyText, OfType, depth_of_passed, depth_of_arguments, depth_of_result}
use Rattle.xdr_grammar.specs.Tree.{depth_of_procedures, depth_of_versions}
use Rattle.xdr_grammar.specs.Grammar.{passed, result, more_arguments, arguments, procedure, procedures, version}
use Rattle.xdr_grammar.specs.Grammar.{versions}
use Rattle.xdr_grammar.specs.Outline.{Part, Outline, passed_in, arguments_in, result_in, procedure_in, procedures_in}
use Rattle.xdr_grammar.specs.Outline.{version_in, versions_in}
use Rattle.xdr_grammar.specs.Private.Taking.{taken, after_word, after_sign, name_at, either_sign}
use Rattle.xdr_grammar.specs.Private.Reading.{Reader, repeat, passed_with, argument_with, arguments_with, result_with}
use Rattle.xdr_grammar.specs.Private.Reading.{procedure_with, version_with}
use Rattle.xdr_grammar.proofs.Leaves.{numbered_again}
use Rattle.xdr_grammar.proofs.Again.Declarations.{RereadsSpecifiers}
use Rattle.xdr_grammar.proofs.Again.Begins.{specifier_begins, close_again}
use Rattle.xdr_grammar.proofs.Again.Long.{specifier_long}

passed_not_void : (p : Passed) (ts : List Lexeme) → after_word word.Void (passed p ts) ≡ None
unfolding after_word
passed_not_void AnyText ts = refl
passed_not_void (OfType s) ts = (specifier_begins s ts).not_void

passed_not_close : (p : Passed) (ts : List Lexeme) → after_sign mark.CloseBrace (passed p ts) ≡ None
unfolding after_sign
passed_not_close AnyText ts = refl
passed_not_close (OfType s) ts = (specifier_begins s ts).not_close

passed_long : (p : Passed) (ts : List Lexeme) → suc (length ts) ≤ length (passed p ts)
passed_long AnyText ts = omega arith
passed_long (OfType s) ts = specifier_long s ts

result_long : (r : Option Passed) (ts : List Lexeme) → suc (length ts) ≤ length (result r ts)
result_long None ts = omega arith
result_long (Some p) ts = passed_long p ts

more_arguments_long : (ps : List Passed) (ts : List Lexeme) → length ps + length ts ≤ length (more_arguments ps ts)
more_arguments_long [] ts = omega arith
more_arguments_long (p ∷ ps) ts = omega (arith, passed_long p (more_arguments ps ts), more_arguments_long ps ts)

arguments_long : (ps : List Passed) (ts : List Lexeme) → length ts ≤ length (arguments ps ts)
arguments_long [] ts = omega arith
arguments_long (p ∷ ps) ts = omega (arith, passed_long p (more_arguments ps ts), more_arguments_long ps ts)

abbrev pub ended : ℤ → List Lexeme → List Lexeme
ended n ts = Sign mark.Equal ∷ Number n ∷ Sign mark.Semicolon ∷ ts

procedure_long : (p : tree.Procedure) (ts : List Lexeme) → suc (length ts) ≤ length (procedure p ts)
procedure_long p ts =
    let inner = arguments p.arguments (Sign mark.CloseRound ∷ ended p.number ts) in
    omega (
      arith,
      result_long p.result (Name p.name ∷ Sign mark.OpenRound ∷ inner),
      arguments_long p.arguments (Sign mark.CloseRound ∷ ended p.number ts),
    )

procedures_long : (ps : List tree.Procedure) (ts : List Lexeme) → length ps + length ts ≤ length (procedures ps ts)
procedures_long [] ts = omega arith
procedures_long (p ∷ ps) ts = omega (arith, procedure_long p (procedures ps ts), procedures_long ps ts)

version_long : (v : tree.Version) (ts : List Lexeme) → suc (length ts) ≤ length (version v ts)
version_long v ts = omega (arith, procedures_long (v.first ∷ v.others) (Sign mark.CloseBrace ∷ ended v.number ts))

pub versions_long : (vs : List tree.Version) (ts : List Lexeme) → length vs + length ts ≤ length (versions vs ts)
versions_long [] ts = omega arith
versions_long (v ∷ vs) ts = omega (arith, version_long v (versions vs ts), versions_long vs ts)

result_not_close : (r : Option Passed) (ts : List Lexeme) → after_sign mark.CloseBrace (result r ts) ≡ None
unfolding after_sign
result_not_close None ts = refl
result_not_close (Some p) ts = passed_not_close p ts

procedure_not_close : (p : tree.Procedure) (ts : List Lexeme) → after_sign mark.CloseBrace (procedure p ts) ≡ None
procedure_not_close p ts = result_not_close p.result
    (Name p.name ∷ Sign mark.OpenRound ∷ arguments p.arguments (Sign mark.CloseRound ∷ ended p.number ts))

-- ---- programs

module _ (d : ℕ) (reader : Reader Part) (rereads : RereadsSpecifiers d reader) where
  passed_again : (p : Passed) (o : Outline) (ts : List Lexeme) → depth_of_passed p ≤ d
      → passed_with reader o (passed p ts) ≡ Some ((passed_in p o).0, (passed_in p o).1, ts)
  unfolding passed_with after_word
  passed_again AnyText o ts fits = refl
  passed_again (OfType s) o ts fits =
      let no_text = (specifier_begins s ts).not_string in
      rw no_text (rereads s o ts fits)

  argument_more : (p : Passed) (o : Outline) (ts : List Lexeme) → depth_of_passed p ≤ d
      → argument_with reader o (passed p (Sign mark.Comma ∷ ts)) ≡ Some (
        ((passed_in p o).0, true),
        (passed_in p o).1,
        ts,
      )
  unfolding argument_with either_sign after_sign
  argument_more p o ts fits = rw (passed_again p o (Sign mark.Comma ∷ ts) fits) refl

  argument_last : (p : Passed) (o : Outline) (ts : List Lexeme) → depth_of_passed p ≤ d
      → argument_with reader o (passed p (Sign mark.CloseRound ∷ ts)) ≡ Some (
        ((passed_in p o).0, false),
        (passed_in p o).1,
        ts,
      )
  unfolding argument_with either_sign after_sign
  argument_last p o ts fits = rw (passed_again p o (Sign mark.CloseRound ∷ ts) fits) refl

  some_arguments_again : (n : ℕ) (p : Passed) (ps : List Passed) (o : Outline) (ts : List Lexeme) → length ps < n
      → depth_of_arguments (p ∷ ps) ≤ d
      → repeat (argument_with reader) n o (passed p (more_arguments ps (Sign mark.CloseRound ∷ ts))) ≡ Some
      ((arguments_in (p ∷ ps) o).0, (arguments_in (p ∷ ps) o).1, ts)
  unfolding repeat
  some_arguments_again zero p ps o ts few fits = absurd (omega arith)
  some_arguments_again (suc n) p [] o ts few fits = rw (argument_last p o ts (omega arith)) refl
  some_arguments_again (suc n) p (q ∷ ps) o ts few fits =
      let first = argument_more p o (passed q (more_arguments ps (Sign mark.CloseRound ∷ ts))) (omega arith) in
      let rest = some_arguments_again n q ps (passed_in p o).1 ts (omega arith) (omega arith) in
      rw (first, rest) refl

  arguments_again : (ps : List Passed) (o : Outline) (ts : List Lexeme) → depth_of_arguments ps ≤ d
      → arguments_with reader o (arguments ps (Sign mark.CloseRound ∷ ts)) ≡ Some
      ((arguments_in ps o).0, (arguments_in ps o).1, ts)
  unfolding arguments_with after_word after_sign
  arguments_again [] o ts fits = refl
  arguments_again (p ∷ ps) o ts fits =
      let inner = more_arguments ps (Sign mark.CloseRound ∷ ts) in
      let all = some_arguments_again (length (passed p inner)) p ps o ts
      (omega (arith, passed_long p inner, more_arguments_long ps (Sign mark.CloseRound ∷ ts))) fits in
      let no_void = passed_not_void p inner in
      rw no_void all

  result_again : (r : Option Passed) (o : Outline) (ts : List Lexeme) → depth_of_result r ≤ d
      → result_with reader o (result r ts) ≡ Some ((result_in r o).0, (result_in r o).1, ts)
  unfolding result_with after_word
  result_again None o ts fits = refl
  result_again (Some p) o ts fits =
      let no_void = passed_not_void p ts in
      rw (no_void, passed_again p o ts fits) refl

  -- as far as what follows the procedure
  procedure_begun : (p : tree.Procedure) (o : Outline) (ts : List Lexeme)
      → max (depth_of_result p.result) (depth_of_arguments p.arguments) ≤ d
      → procedure_with reader o (procedure p ts) ≡ taken (after_sign mark.CloseBrace ts)
      (λ rest. Some (((procedure_in p o).0, false), (procedure_in p o).1, rest))
      (Some (((procedure_in p o).0, true), (procedure_in p o).1, ts))
  unfolding procedure_with name_at after_sign
  procedure_begun p o ts fits =
      let r = result_again p.result o
      (Name p.name ∷ Sign mark.OpenRound ∷ arguments p.arguments (Sign mark.CloseRound ∷ ended p.number ts))
      (omega arith) in
      let a = arguments_again p.arguments (result_in p.result o).1 (ended p.number ts) (omega arith) in
      rw (r, a, numbered_again p.number ts) refl

  procedures_again : (n : ℕ) (p : tree.Procedure) (ps : List tree.Procedure) (o : Outline) (ts : List Lexeme)
      → length ps < n → depth_of_procedures (p ∷ ps) ≤ d
      → repeat (procedure_with reader) n o (procedures (p ∷ ps) (Sign mark.CloseBrace ∷ ts)) ≡ Some
      ((procedures_in (p ∷ ps) o).0, (procedures_in (p ∷ ps) o).1, ts)
  unfolding repeat
  procedures_again zero p ps o ts few fits = absurd (omega arith)
  procedures_again (suc n) p [] o ts few fits = rw (
    procedure_begun p o (Sign mark.CloseBrace ∷ ts) (omega arith),
    close_again ts,
  ) refl
  procedures_again (suc n) p (q ∷ ps) o ts few fits =
      let next = procedures (q ∷ ps) (Sign mark.CloseBrace ∷ ts) in
      let first = procedure_begun p o next (omega arith) in
      let rest = procedures_again n q ps (procedure_in p o).1 ts (omega arith) (omega arith) in
      rw (first, procedure_not_close q (procedures ps (Sign mark.CloseBrace ∷ ts)), rest) refl

  version_begun : (v : tree.Version) (o : Outline) (ts : List Lexeme) → depth_of_procedures (v.first ∷ v.others) ≤ d
      → version_with reader o (version v ts) ≡ taken (after_sign mark.CloseBrace ts)
      (λ rest. Some (((version_in v o).0, false), (version_in v o).1, rest))
      (Some (((version_in v o).0, true), (version_in v o).1, ts))
  unfolding version_with name_at after_sign after_word
  version_begun v o ts fits =
      let inner = procedures (v.first ∷ v.others) (Sign mark.CloseBrace ∷ ended v.number ts) in
      let all = procedures_again (length inner) v.first v.others o (ended v.number ts)
      (omega (arith, procedures_long (v.first ∷ v.others) (Sign mark.CloseBrace ∷ ended v.number ts))) fits in
      rw (all, numbered_again v.number ts) refl

  version_not_close : (v : tree.Version) (ts : List Lexeme) → after_sign mark.CloseBrace (version v ts) ≡ None
  unfolding after_sign
  version_not_close v ts = refl

  pub versions_again : (n : ℕ) (v : tree.Version) (vs : List tree.Version) (o : Outline) (ts : List Lexeme)
      → length vs < n
      → depth_of_versions (v ∷ vs) ≤ d
      → repeat (version_with reader) n o (versions (v ∷ vs) (Sign mark.CloseBrace ∷ ts)) ≡ Some
      ((versions_in (v ∷ vs) o).0, (versions_in (v ∷ vs) o).1, ts)
  unfolding repeat
  versions_again zero v vs o ts few fits = absurd (omega arith)
  versions_again (suc n) v [] o ts few fits = rw (
    version_begun v o (Sign mark.CloseBrace ∷ ts) (omega arith),
    close_again ts,
  ) refl
  versions_again (suc n) v (w ∷ vs) o ts few fits =
      let next = versions (w ∷ vs) (Sign mark.CloseBrace ∷ ts) in
      let first = version_begun v o next (omega arith) in
      let rest = versions_again n w vs (version_in v o).1 ts (omega arith) (omega arith) in
      rw (first, version_not_close w (versions vs (Sign mark.CloseBrace ∷ ts)), rest) refl
