use Rattle.std.proofs.Common.{◌≡◌, ◌<◌, List, [], ◌++◌, length, subst, ap, ◌∙◌, arith, option_map, None, Some}
use Rattle.std.proofs.lemmas.Result.{err_from_is_err_and}
use Rattle.std.proofs.lemmas.List.{append-nil}
use Rattle.std.proofs.lemmas.Grind.{common_steps}
use Rattle.xdr_tokens.specs.Tokens.{Lexeme, lexeme, lexemes}
use Rattle.xdr_tokens.specs.Text.{Tokens, with_token}
use Rattle.xdr_tokens.proofs.Whole.{fault_within, shorter, more_tokens, less_tokens, no_more, all_done}
use Rattle.xdr_tokens.proofs.Whole.{fails_too, retained}
use Rattle.xdr_tokens.proofs.cutting.tokens.Goals as goal

pub returns-in_err-token-clause-only : goal.returns-in_err-token-clause-only
returns-in_err-token-clause-only c = λ ts t.
    let p = err_from_is_err_and c.from_residual.result c.from_residual.ensures.1 in
    let rest = c.loop-rest.rest.now in
    let lt : 0 < length rest = grind (arith, common_steps) in
    let left = c.loop-rest.invariant.complete ts t in
    rw (p.1, p.2) (fails_too c.in_err-token.field-0.0 rest left.0 lt c.in_err-token.ensures.read left.1 ts)

pub loop-rest-smaller : goal.loop-rest-smaller
loop-rest-smaller c = shorter c.loop-rest.rest.now (
  option_map lexeme c.in_ok-token.token,
  c.in_ok-token.after.now,
) c.in_ok-token.ensures.read

pub loop-rest-preserved : goal.loop-rest-preserved
loop-rest-preserved c =
    let rest = c.loop-rest.rest.now in
    let lt : 0 < length rest = grind (arith, common_steps) in
    let front = lexemes c.loop-rest.found.items in
    let token = option_map lexeme c.in_ok-token.token in
    let after = c.in_ok-token.after.now in
    let less = shorter rest (token, after) c.in_ok-token.ensures.read in
    record {
      sound = λ ts t. rw c.in_ok-keep.ensures.ok
          (subst (λ (x : List Lexeme). Tokens c.args.text.now x) (retained front token ts)
          (c.loop-rest.invariant.sound (with_token token ts)
          (more_tokens rest (token, after) c.in_ok-token.ensures.read ts t)));
      complete = λ ts t.
          let o = c.loop-rest.invariant.complete ts t in
          let l = less_tokens rest (token, after) lt c.in_ok-token.ensures.read o.0 o.1 in (
            l.0,
            l.1,
            rw c.in_ok-keep.ensures.ok (o.2 ∙ ap (λ (x : List Lexeme). front ++ x) l.2
                ∙ retained front token l.0),
          );
      within = omega (arith, less, c.loop-rest.invariant.within);
    }

pub returns-clause-found : goal.returns-clause-found
returns-clause-found c =
    let rest = c.loop-rest.rest.now in
    let none : length rest ≡ 0 = grind (arith, common_steps) in
    subst (λ (x : List Lexeme). Tokens c.args.text.now x) (append-nil (lexemes c.loop-rest.found.items))
    (c.loop-rest.invariant.sound [] (all_done rest none))

pub returns-clause-only : goal.returns-clause-only
returns-clause-only c = λ ts t.
    let rest = c.loop-rest.rest.now in
    let none : length rest ≡ 0 = grind (arith, common_steps) in
    let front = lexemes c.loop-rest.found.items in
    let o = c.loop-rest.invariant.complete ts t in
    ap (λ (x : List Lexeme). Some x) (o.2 ∙ ap (λ (x : List Lexeme). front ++ x) (no_more rest o.0 none o.1)
    ∙ append-nil front)

pub returns-in_err-token-clause-refused : goal.returns-in_err-token-clause-refused
returns-in_err-token-clause-refused c =
    let p = err_from_is_err_and c.from_residual.result c.from_residual.ensures.1 in
    rw (p.1, p.2) (fault_within c.in_err-token.field-0.0 c.loop-rest.rest.now c.args.text.now
    c.loop-rest.invariant.within c.in_err-token.ensures.refused)

pub loop-rest-preserved-in-Some : goal.loop-rest-preserved-in-Some
loop-rest-preserved-in-Some c =
    let rest = c.loop-rest.rest.now in
    let lt : 0 < length rest = grind (arith, common_steps) in
    let front = lexemes c.loop-rest.found.items in
    let after = c.in-Some.after.now in
    let less = shorter rest (None, after) c.in-Some.ensures in
    record {
      sound = λ ts t. c.loop-rest.invariant.sound ts (more_tokens rest (None, after) c.in-Some.ensures ts t);
      complete = λ ts t.
          let o = c.loop-rest.invariant.complete ts t in
          let l = less_tokens rest (None, after) lt c.in-Some.ensures o.0 o.1 in
          (l.0, l.1, o.2 ∙ ap (λ (x : List Lexeme). front ++ x) l.2);
      within = omega (arith, less, c.loop-rest.invariant.within);
    }

pub loop-rest-smaller-in-Some : goal.loop-rest-smaller-in-Some
loop-rest-smaller-in-Some c = shorter c.loop-rest.rest.now (None, c.in-Some.after.now) c.in-Some.ensures
