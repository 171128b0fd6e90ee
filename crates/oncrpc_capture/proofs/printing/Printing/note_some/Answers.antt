use Rattle.oncrpc_capture.proofs.Going.{heard_none, heard_note}
use Rattle.oncrpc_capture.proofs.Printed.{on_ok}
use Rattle.oncrpc_capture.proofs.printing.Printing.note_some.Goals as goal

pub returns-in-Some : goal.returns-in-Some
returns-in-Some g c = on_ok _ (λ h. heard_note _ _ _ _ _ _ _ h) c.note.ensures

pub returns-in-None : goal.returns-in-None
returns-in-None g c = heard_none _ _
