use Rattle.std.proofs.Common.{List, ℕ, ap, map}
use Rattle.std.specs.Prelude.{codes}
use Rattle.xdr_lang.specs.Views.{version_of}
use Rattle.xdr_lang.specs.declared.declarations.Version.{Version}
use Rattle.xdr_listing.specs.Private.Held.{types_of}
use Rattle.xdr_listing.specs.Private.Tokens.{array_tokens, numbered_tokens, version_tokens}
use Rattle.xdr_listing.proofs.Tokens.{object_as}
use Rattle.xdr_listing.proofs.json_programs.push_program.Goals as goal

pub returns : goal.returns
returns c =
    object_as _ _ _ _ _ _ _ _ _ (codes "versions") c.in_ok-numbered.ensures c.in_ok-token.ensures
    c.in_ok-push_versions.ensures c.in_ok-token-2.ensures
    (ap (λ (n : List ℕ). numbered_tokens n c.args.program.now.number) c.as_str.ensures.value)
    (ap (λ (xs : List Version). array_tokens (version_tokens (types_of c.args.types.now)) (map version_of xs))
    c.deref.ensures.value)
