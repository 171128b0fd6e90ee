use Rattle.std.proofs.Common.{ap, ◌∙◌}
use Rattle.oncrpc_watch.specs.Terms.{terms_of}
use Rattle.oncrpc_capture.proofs.Closed.{packets_same}
use Rattle.oncrpc_capture.proofs.capture.print_of.Goals as goal

pub returns-clause-prints : goal.returns-clause-prints
returns-clause-prints g c =
    packets_same _ _ _ _ _ _ _ _ _ _
    (ap (λ w. terms_of w.terms) c.new-desk.ensures.watch ∙ ap terms_of c.new-watch.ensures.terms)
    (c.new-desk.ensures.ports ∙ c.deref.ensures.value) c.new-desk.ensures.stats c.finish.ensures.prints
