use Rattle.std.proofs.Common.{List, sym, ap, subst, ◌∙◌}
use Rattle.xdr_tokens.specs.Tokens.{Lexeme}
use Rattle.xdr_tokens.proofs.Options.{some_is}
use Rattle.xdr_tokens.proofs.Whole.{one_list}
use Rattle.xdr_grammar.specs.Spelled.{IsOutline}
use Rattle.xdr_grammar.proofs.Outlining.{one_outline}
use Rattle.xdr_lang.specs.Meaning.{meaning}
use Rattle.xdr_lang.proofs.laws.one_meaning.Goals as goal

pub returns : goal.returns
returns c = λ text d e m n.
    let same = one_list text m.tokens n.tokens m.cut n.cut in
    let spelled = subst (λ (ts : List Lexeme). IsOutline ts m.outline) same m.spelled in
    let same_outline = one_outline n.tokens m.outline n.outline spelled n.spelled in
    some_is d e (sym m.meant.meant ∙ ap meaning same_outline ∙ n.meant.meant)
