use Rattle.example_registry.proofs.Waiting.{none_served}
use Rattle.example_registry.proofs.datagrams.serves_no_datagram.Goals as goal

pub returns-clause-well : goal.returns-clause-well
returns-clause-well g c =
    (none_served _ _ _ _ _ _ c.serve_datagrams.result c.serve_datagrams.ensures.ok c.serve_datagrams.ensures.fault).0

pub returns-clause-counted : goal.returns-clause-counted
returns-clause-counted g c =
    (none_served _ _ _ _ _ _ c.serve_datagrams.result c.serve_datagrams.ensures.ok c.serve_datagrams.ensures.fault).1

pub returns-clause-rows : goal.returns-clause-rows
returns-clause-rows g c =
    (none_served _ _ _ _ _ _ c.serve_datagrams.result c.serve_datagrams.ensures.ok c.serve_datagrams.ensures.fault).2.0

pub returns-clause-received : goal.returns-clause-received
returns-clause-received g c =
    (none_served _ _ _ _ _ _ c.serve_datagrams.result c.serve_datagrams.ensures.ok c.serve_datagrams.ensures.fault).2.1

pub returns-clause-sent : goal.returns-clause-sent
returns-clause-sent g c =
    (none_served _ _ _ _ _ _ c.serve_datagrams.result c.serve_datagrams.ensures.ok c.serve_datagrams.ensures.fault).2.2
