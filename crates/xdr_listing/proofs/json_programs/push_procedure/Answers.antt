use Rattle.std.proofs.Common.{List, ℕ, ap}
use Rattle.std.specs.Prelude.{codes}
use Rattle.xdr_lang.specs.Views.{places}
use Rattle.xdr_types.specs.declared.kind.KindId.{KindId}
use Rattle.xdr_listing.specs.Private.Held.{types_of}
use Rattle.xdr_listing.specs.Private.Tokens.{array_tokens, numbered_tokens, part_tokens}
use Rattle.xdr_listing.proofs.Tokens.{pair_as}
use Rattle.xdr_listing.proofs.json_programs.push_procedure.Goals as goal

pub returns : goal.returns
returns c =
    pair_as _ _ _ _ _ _ _ _ _ _ _ _ (codes "arguments") (codes "result") c.in_ok-numbered.ensures
    c.in_ok-token.ensures c.in_ok-push_arguments.ensures c.in_ok-token-2.ensures c.in_ok-push_result.ensures
    c.in_ok-token-3.ensures
    (ap (λ (n : List ℕ). numbered_tokens n c.args.procedure.now.number) c.as_str.ensures.value)
    (ap (λ (xs : List KindId). array_tokens (part_tokens (types_of c.args.types.now)) (places xs))
    c.deref.ensures.value)
