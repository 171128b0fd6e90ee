use Rattle.std.proofs.Common.{subst}
use Rattle.std.proofs.lemmas.Result.{err_from_is_err_and}
use Rattle.xdr_grammar.specs.Outline.{Outline}
use Rattle.xdr_grammar.specs.View.{outline_of}
use Rattle.xdr_tokens.proofs.Options.{some_is}
use Rattle.xdr_lang.specs.Means.{IsMeant}
use Rattle.xdr_lang.proofs.Refusing.{fails_same}
use Rattle.xdr_lang.proofs.of_tokens.spelled.Goals as goal

pub returns-in_err-outline-clause-only : goal.returns-in_err-outline-clause-only
returns-in_err-outline-clause-only c = λ d m.
    let p = err_from_is_err_and c.from_residual.result c.from_residual.ensures.1 in
    rw (p.1, p.2)
    (fails_same c.in_err-outline.field-0.0 m.outline d (c.in_err-outline.ensures.only m.outline m.spelled))

pub returns-clause-only : goal.returns-clause-only
returns-clause-only c = λ d m.
    let same_outline = some_is m.outline (outline_of c.in_ok-outline.outline)
    (c.in_ok-outline.ensures.only m.outline m.spelled) in
    c.meaning.ensures.only d (subst (λ (o : Outline). IsMeant o d) same_outline m.meant)
