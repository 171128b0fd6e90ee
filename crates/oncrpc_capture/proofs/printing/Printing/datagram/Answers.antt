use Rattle.oncrpc_capture.proofs.Datagrams.{told_note, told_whole}
use Rattle.oncrpc_capture.proofs.Printed.{on_ok}
use Rattle.oncrpc_capture.proofs.printing.Printing.datagram.Goals as goal

pub returns-then-missing-eq0 : goal.returns-then-missing-eq0
returns-then-missing-eq0 g c = on_ok _ (λ h. told_whole _ c.args.way _ _ _ _ _ _ c.if-missing-eq0.true h)
    c.record.ensures

pub returns-else-missing-eq0 : goal.returns-else-missing-eq0
returns-else-missing-eq0 g c = on_ok _ (λ h. told_note _ _ _ _ _ _ _ c.if-missing-eq0.false h) c.note.ensures
