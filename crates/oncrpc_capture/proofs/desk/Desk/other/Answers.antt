use Rattle.std.proofs.Common.{sym, ◌∙◌}
use Rattle.oncrpc_capture.proofs.Datagrams.{other_untold}
use Rattle.oncrpc_capture.proofs.desk.Desk.other.Goals as goal

pub returns-else-is_unread-clause-brings : goal.returns-else-is_unread-clause-brings
returns-else-is_unread-clause-brings g c = other_untold _ _ _ _ (sym c.is_unread.ensures ∙ c.if-is_unread.false)
