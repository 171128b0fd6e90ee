use Rattle.oncrpc_capture.proofs.Printed.{on_ok}
use Rattle.std.proofs.Common.{sym, ◌∙◌}
use Rattle.capture_packets.specs.View.{datagram_view}
use Rattle.oncrpc_capture.proofs.Datagrams.{datagram_brings, datagram_unwanted, untold}
use Rattle.oncrpc_capture.proofs.desk.Desk.datagram.Goals as goal

pub returns-then-not-is_wanted-clause-brings : goal.returns-then-not-is_wanted-clause-brings
returns-then-not-is_wanted-clause-brings g c =
    datagram_unwanted _ _ _ _ _ (sym c.is_wanted.ensures ∙ c.if-not-is_wanted.true)

pub returns-in-Some-clause-brings : goal.returns-in-Some-clause-brings
returns-in-Some-clause-brings g c = on_ok _
    (λ h. datagram_brings _ _ (datagram_view c.args.datagram) _ _ _ _ _
    (sym c.is_wanted.ensures ∙ c.if-not-is_wanted.false) c.is_message-is_message.ensures h)
    c.datagram_at.ensures.tells

pub returns-in-None-clause-brings : goal.returns-in-None-clause-brings
returns-in-None-clause-brings g c =
    datagram_brings _ _ (datagram_view c.args.datagram) _ _ _ _ c.is_message-is_message.result
    (sym c.is_wanted.ensures ∙ c.if-not-is_wanted.false) c.is_message-is_message.ensures
    (untold _ _ _ _ _ (rw c.in-None.is at c.in_ok-found.ensures))
