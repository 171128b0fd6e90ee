use Rattle.oncrpc_watch.proofs.watch.Watch.call_of.Goals as goal

pub returns-in_err-xid : goal.returns-in_err-xid
returns-in_err-xid c = λ xid h. absurd (c.in_err-xid.ensures xid h)
