use Rattle.std.proofs.lemmas.Result.{err_from_is_err_and}
use Rattle.xdr_stream.proofs.machine.entering.enter_nodes.Goals as goal

pub returns-in_err-enter-clause-spared : goal.returns-in_err-enter-clause-spared
returns-in_err-enter-clause-spared g c =
    let p = err_from_is_err_and c.from_residual.result c.from_residual.ensures.1 in
    rw p.1 (λ kind q h. c.in_err-enter.ensures.spared kind q (c.loop-left.invariant.0 kind q h))
