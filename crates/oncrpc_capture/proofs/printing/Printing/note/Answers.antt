use Rattle.std.proofs.Common.{ap, refl, sym}
use Rattle.std.specs.Prelude.{is_some}
use Rattle.oncrpc_capture.proofs.Printed.{note_said, note_unsaid, on_ok}
use Rattle.oncrpc_capture.proofs.printing.Printing.note.Goals as goal

pub returns-in-Some : goal.returns-in-Some
returns-in-Some g c =
    note_unsaid c.args.self.now _ c.args.seen _ c.args.count _ (ap (λ o. is_some o) c.in-Some.is) refl
    (sym (ap (λ o. is_some o) c.in-Some.is))

pub returns-in-None : goal.returns-in-None
returns-in-None g c =
    on_ok _ (λ w. note_said c.args.self.now c.args.seen _ _ c.args.count _ _ (ap (λ o. is_some o) c.in-None.is) refl w)
    c.put_note.ensures
