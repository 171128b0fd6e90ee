use Rattle.std.proofs.Common.{arith, subst}
use Rattle.oncrpc_tasks.specs.Sources.{Declares}
use Rattle.xdr_lang.specs.Views.{declared_of}
use Rattle.oncrpc_capture.proofs.Closed.{prints_capture}
use Rattle.oncrpc_capture.proofs.capture.capture_over.Goals as goal

pub returns-in-Ok-print_by : goal.returns-in-Ok-print_by
returns-in-Ok-print_by g c = record {
  some_status = omega (arith, c.in-Ok-print_by.ensures.few);
  printed = λ x. prints_capture _ _ (g.P.Opener.reported c.args.opener.now) c.args.what.now _ c.in-Ok.file _ _ _ _
      (subst (λ r. Declares r c.args.what.now.types (declared_of c.in-Ok-declared.declared)) c.file_of.ensures.same
      c.in-Ok-declared.ensures.declares) c.in-Ok.ensures.opened c.in-Ok-print_by.ensures.prints;
  refused = λ two. absurd (omega (arith, two, c.in-Ok-print_by.ensures.few));
}
