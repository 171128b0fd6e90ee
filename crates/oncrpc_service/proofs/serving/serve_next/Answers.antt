-- What the engine says of the connection that came, and that all of it is what its client got.
use Rattle.std.proofs.Common.{sym, subst}
use Rattle.xdr_io.specs.Reported.{Counts}
use Rattle.oncrpc_service.proofs.Following.{next_served}
use Rattle.oncrpc_service.proofs.serving.serve_next.Goals as goal

pub returns-in-Ok-clause-served : goal.returns-in-Ok-clause-served
returns-in-Ok-clause-served g c =
    next_served _ _ _ _ _ _ _ _ _ _ _ c.in-Ok.writer c.serve-outcome.new.writer c.serve-outcome.result
    c.in-Ok.ensures.arrived c.in-Ok.ensures.fresh c.in-Ok.ensures.same.0 c.close.ensures.waiting c.close.ensures.sent
    c.serve-outcome.ensures.ok c.serve-outcome.ensures.fault

pub returns-in-Ok-clause-none_failed : goal.returns-in-Ok-clause-none_failed
returns-in-Ok-clause-none_failed g c =
    subst (λ k. Counts 0 (g.L.Listener.failures c.args.listener.now) k) (sym c.close.ensures.failures)
    c.in-Ok.ensures.failed
