use Rattle.std.proofs.Common.{ap, ◌∙◌}
use Rattle.std.proofs.lemmas.Result.{IfOk-weaker}
use Rattle.xdr_rpcgen.specs.Private.Places.{lefts}
use Rattle.xdr_rpcgen.proofs.Placed.{lefts_placed}
use Rattle.xdr_rpcgen.proofs.reading.language_of.Goals as goal

pub returns-clause-places : goal.returns-clause-places
returns-clause-places c =
    let stand = rw c.deref.ensures.value at c.resolved_tokens.ensures.places in
    IfOk-weaker c.resolved_tokens.result _ _
    (λ v e. e ∙ (lefts_placed c.in_ok-meant.meant.items ∙ ap lefts c.in_ok-meant.ensures.places)) stand
