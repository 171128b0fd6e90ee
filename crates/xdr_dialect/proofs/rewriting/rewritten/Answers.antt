use Rattle.std.proofs.Common.{◌≡◌, ◌<◌, List, ◌++◌, ap, ◌∙◌, arith}
use Rattle.xdr_tokens.specs.declared.token.Mark.TheVariants as mark
use Rattle.xdr_tokens.specs.declared.token.Token.TheVariants as code
use Rattle.xdr_dialect.specs.Dialect.{Placed, all_placed}
use Rattle.xdr_dialect.proofs.Places.{front_token, skip_one, rewrite_one}
use Rattle.xdr_dialect.proofs.rewriting.rewritten.Goals as goal

pub loop-rest-preserved-then-skip-gt0 : goal.loop-rest-preserved-then-skip-gt0
loop-rest-preserved-then-skip-gt0 c =
    let rest = c.loop-rest.rest.now in
    let lt : 0 < c.loop-rest.skip = omega arith in
    c.loop-rest.invariant ∙ ap (λ (l : List Placed). all_placed c.loop-rest.found.items ++ l)
    (skip_one c.loop-rest.scope c.loop-rest.skip _ _ rest
    (front_token rest (code.Sign mark.Star 0) c.in-len1-up.len_at_least) lt)

pub loop-rest-preserved : goal.loop-rest-preserved
loop-rest-preserved c =
    let rest = c.loop-rest.rest.now in
    let none : c.loop-rest.skip ≡ 0 = omega arith in
    c.loop-rest.invariant ∙ rw c.in_ok-add.ensures
    (rewrite_one c.loop-rest.scope c.loop-rest.skip _ _ rest c.loop-rest.found.items c.turn-turned.result
    (front_token rest _ c.in-len1-up.len_at_least) none c.turn-turned.ensures)
