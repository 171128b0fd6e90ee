-- What tokens declare, computed.
use Rattle.std.proofs.Common.{◌≡◌, List, length, Option, Some, option_map, refl, sym, ap, subst, ◌∙◌}
use Rattle.std.proofs.Common.{Result, Ok, Err, IfOk, IfErr, None}
use Rattle.std.specs.Prelude.{is_ok, is_some, true, false}
use Rattle.xdr_tokens.specs.declared.fault.Fault.{Fault}
use Rattle.xdr_tokens.specs.declared.fault.Fault.TheVariants as fault
use Rattle.xdr_tokens.specs.Due.{Gives}
use Rattle.xdr_tokens.specs.Tokens.{Lexeme}
use Rattle.xdr_tokens.proofs.Options.{some_is, some_is_not}
use Rattle.xdr_grammar.specs.declared.outline.Outline.{Outline as Made}
use Rattle.xdr_grammar.specs.Outline.{Outline, nothing}
use Rattle.xdr_grammar.specs.View.{outline_of}
use Rattle.xdr_grammar.specs.Spelled.{IsOutline}
use Rattle.xdr_grammar.specs.Private.Reading.{definitions_at}
use Rattle.xdr_grammar.proofs.Outlining.{outline_again}
use Rattle.example_language.proofs.Cutting.{present, no_refusal}
pub use Rattle.xdr_grammar.proofs.Outlining.{outline_found}

pub reports_outline : {A : Type 0} (ts us : List Lexeme) (f : Outline → A) (y : A) (r : Result Made Fault) → us ≡ ts
    → option_map f (definitions_at (length ts) nothing ts) ≡ Some y → IfOk r (λ v. IsOutline us (outline_of v))
    → IfOk r (λ v. f (outline_of v) ≡ y)
reports_outline ts us f y (Ok v) same is found =
    let read = outline_again ts (outline_of v) (subst (λ (x : List Lexeme). IsOutline x (outline_of v)) same found) in
    some_is (f (outline_of v)) y (sym (ap (λ (o : Option Outline). option_map f o) read) ∙ is)
reports_outline ts us f y (Err e) same is found = tt

pub no_outline : (ts us : List Lexeme) (r : Result Made Fault) → us ≡ ts
    → definitions_at (length ts) nothing ts ≡ None → IfOk r (λ v. IsOutline us (outline_of v)) → is_ok r ≡ false
no_outline ts us (Ok v) same none found =
    let is = subst (λ (x : List Lexeme). IsOutline x (outline_of v)) same found in
    absurd (some_is_not (outline_of v) (sym (outline_again ts (outline_of v) is) ∙ none))
no_outline ts us (Err e) same none found = refl

pub memory_of_outline : (ts us : List Lexeme) (r : Result Made Fault) → us ≡ ts
    → is_some (definitions_at (length ts) nothing ts) ≡ true
    → ((v : Outline) → IsOutline us v → Gives outline_of r (Some v)) → IfErr r (λ e. e ≡ fault.NoMemory)
memory_of_outline ts us (Ok v) same is only = tt
memory_of_outline ts us (Err e) same is only =
    let p = present (definitions_at (length ts) nothing ts) is in
    no_refusal e p.0
    (only p.0 (subst (λ (x : List Lexeme). IsOutline x p.0) (sym same) (outline_found ts p.0 p.1)))
