use Rattle.oncrpc_capture.proofs.Printed.{on_ok}
use Rattle.oncrpc_capture.proofs.Going.{found_heard, heard_none, heard_note, heard_one}
use Rattle.oncrpc_capture.proofs.desk.Desk.print_found.Goals as goal

pub returns-then-found-clause-prints : goal.returns-then-found-clause-prints
returns-then-found-clause-prints g c =
    on_ok _ (λ h. found_heard _ _ _ _ _ _ (heard_note _ _ _ _ _ _ _ h)) c.note.ensures

pub returns-else-found-clause-prints : goal.returns-else-found-clause-prints
returns-else-found-clause-prints g c = found_heard _ _ _ _ _ _ (heard_none _ _)

pub returns-then-found-2-clause-prints : goal.returns-then-found-2-clause-prints
returns-then-found-2-clause-prints g c =
    on_ok _ (λ h. found_heard _ _ _ _ _ _ (heard_one _ _ _ _ _ (λ ss. tt) h)) c.too_long.ensures

pub returns-else-found-2-clause-prints : goal.returns-else-found-2-clause-prints
returns-else-found-2-clause-prints g c = found_heard _ _ _ _ _ _ (heard_none _ _)

pub returns-in-Waits-clause-prints : goal.returns-in-Waits-clause-prints
returns-in-Waits-clause-prints g c = found_heard _ _ _ _ _ _ (heard_none _ _)
