use Rattle.std.proofs.Common.{List, ℕ, ap, map}
use Rattle.std.specs.Prelude.{codes}
use Rattle.xdr_lang.specs.Views.{procedure_of}
use Rattle.xdr_lang.specs.declared.declarations.Procedure.{Procedure}
use Rattle.xdr_listing.specs.Private.Held.{types_of}
use Rattle.xdr_listing.specs.Private.Tokens.{array_tokens, numbered_tokens, procedure_tokens}
use Rattle.xdr_listing.proofs.Tokens.{object_as}
use Rattle.xdr_listing.proofs.json_programs.push_version.Goals as goal

pub returns : goal.returns
returns c =
    object_as _ _ _ _ _ _ _ _ _ (codes "procedures") c.in_ok-numbered.ensures c.in_ok-token.ensures
    c.in_ok-push_procedures.ensures c.in_ok-token-2.ensures
    (ap (λ (n : List ℕ). numbered_tokens n c.args.version.now.number) c.as_str.ensures.value)
    (ap (λ (xs : List Procedure). array_tokens (procedure_tokens (types_of c.args.types.now)) (map procedure_of xs))
    c.deref.ensures.value)
