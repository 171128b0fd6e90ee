use Rattle.std.proofs.Common.{ap, ◌∙◌}
use Rattle.oncrpc_watch.specs.MessagesEnd.{status_of}
use Rattle.oncrpc_capture.proofs.Closed.{prints_packets}
use Rattle.oncrpc_capture.proofs.desk.Desk.finish.Goals as goal

pub returns-clause-prints : goal.returns-clause-prints
returns-clause-prints g c =
    prints_packets c.args.self.now.printing _ _ _ _ _ _ _ c.requires.nothing c.in_ok-read.ensures
    c.in_ok-close.ensures
    (c.status_of-status.ensures.status ∙ ap status_of c.refused.ensures)
