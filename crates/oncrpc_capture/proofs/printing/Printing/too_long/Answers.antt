use Rattle.std.proofs.Common.{ap, refl, sym}
use Rattle.std.specs.Prelude.{codes, is_some}
use Rattle.oncrpc_watch.specs.Events.{stream_line}
use Rattle.oncrpc_capture.specs.Texts.{behind, front_text}
use Rattle.oncrpc_capture.proofs.Printed.{on_ok, too_long_said, too_long_unsaid}
use Rattle.oncrpc_capture.proofs.printing.Printing.too_long.Goals as goal

pub returns-in-Some : goal.returns-in-Some
returns-in-Some g c =
    too_long_unsaid c.args.self.now _ c.args.seen _ (ap (λ o. is_some o) c.in-Some.is) c.refuse.ensures.terms
    (sym (ap (λ o. is_some o) c.in-Some.is)) c.refuse.ensures.table c.refuse.ensures.counts

pub returns-in-None : goal.returns-in-None
returns-in-None g c =
    on_ok _ (λ w. too_long_said c.args.self.now _ c.args.seen _ _ _ (ap (λ o. is_some o) c.in-None.is)
    c.refuse.ensures.terms refl c.refuse.ensures.table c.refuse.ensures.counts
    (ap (λ k. behind k.form (front_text k.form c.args.seen) (stream_line k.form (codes "record") (codes "TooLong") 0))
    c.refuse.ensures.terms) w) c.put_too_long.ensures
