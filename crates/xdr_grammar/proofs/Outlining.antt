-- What is read from all the tokens.
use Rattle.std.proofs.Common.{◌≡◌, ◌≤◌, List, length, Some, inl, inr, refl, sym, ap, ◌∙◌, arith}
use Rattle.xdr_tokens.specs.Tokens.{Lexeme}
use Rattle.xdr_tokens.specs.Due.{RefusesRightly}
use Rattle.xdr_tokens.proofs.Options.{some_is}
use Rattle.xdr_grammar.specs.declared.misread.Misplaced.TheVariants as misplaced
use Rattle.xdr_grammar.specs.declared.misread.Misread.{Misread}
use Rattle.xdr_grammar.specs.declared.misread.Misread.TheVariants as misread
use Rattle.xdr_grammar.specs.Misreadings.{IsGrammarFault}
use Rattle.xdr_grammar.specs.Private.Parsing as steps
use Rattle.xdr_grammar.specs.Private.Parsing.{reported}
use Rattle.xdr_grammar.specs.Grammar.{specification}
use Rattle.xdr_grammar.specs.Outline.{Outline, nothing}
use Rattle.xdr_grammar.specs.Spelled.{IsOutline}
use Rattle.xdr_grammar.specs.Private.Reading.{definitions_at}
use Rattle.xdr_grammar.proofs.Found.Definitions.{definitions_found}
use Rattle.xdr_grammar.proofs.Again.Definitions.{definitions_again}

pub outline_found : (ts : List Lexeme) (v : Outline) → definitions_at (length ts) nothing ts ≡ Some v → IsOutline ts v
outline_found ts v e =
    let d = definitions_found (length ts) nothing ts v e in
    record { tree = d.tree; spelled = d.spelled; nested = d.nested; outlined = d.made }

pub outline_again : (ts : List Lexeme) (v : Outline) → IsOutline ts v → definitions_at (length ts) nothing ts ≡ Some v
outline_again ts v is =
    let few : length (specification is.tree) ≤ length ts = omega (arith, ap length is.spelled) in
    ap (λ (x : List Lexeme). definitions_at (length ts) nothing x) is.spelled
    ∙ definitions_again (length ts) is.tree nothing few is.nested ∙ ap (λ (x : Outline). Some x) (sym is.outlined)

-- tokens spell one outline
pub one_outline : (ts : List Lexeme) (v w : Outline) → IsOutline ts v → IsOutline ts w → v ≡ w
one_outline ts v w is iw = some_is v w (sym (outline_again ts v is) ∙ outline_again ts w iw)

-- where something is due, memory ran out, and that is reported
pub reported_fails : (e : Misread) (v : Outline) → steps.MisreadsRightly e (Some v)
    → RefusesRightly (reported e) (Some v)
reported_fails misread.NoMemory v h = tt
reported_fails (misread.Token why left) v h = absurd cc

pub reported_is : (e : Misread) → IsGrammarFault (reported e)
reported_is misread.NoMemory = tt
reported_is (misread.Token misplaced.Unexpected left) = inl refl
reported_is (misread.Token misplaced.FloatingKind left) = inr (inl refl)
reported_is (misread.Token misplaced.NestedTooDeep left) = inr (inr refl)
