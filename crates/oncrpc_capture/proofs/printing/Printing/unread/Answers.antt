use Rattle.std.proofs.Common.{ap, refl, sym}
use Rattle.std.specs.Prelude.{is_some}
use Rattle.oncrpc_capture.proofs.Printed.{on_ok, unread_said, unread_unsaid}
use Rattle.oncrpc_capture.proofs.printing.Printing.unread.Goals as goal

pub returns-in-Some : goal.returns-in-Some
returns-in-Some g c =
    unread_unsaid c.args.self.now _ c.args.frame c.args.time _ _ (ap (λ o. is_some o) c.in-Some.is) refl
    (sym (ap (λ o. is_some o) c.in-Some.is))

pub returns-in-None : goal.returns-in-None
returns-in-None g c =
    on_ok _ (λ w. unread_said c.args.self.now c.args.frame c.args.time _ _ _ _ (ap (λ o. is_some o) c.in-None.is) refl
    w) c.put_unread.ensures
