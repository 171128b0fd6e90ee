use Rattle.example_registry.proofs.Waiting.{silent_served}
use Rattle.example_registry.proofs.datagrams.is_silent_to_an_empty_datagram.Goals as goal

pub returns-clause-counted : goal.returns-clause-counted
returns-clause-counted g c =
    (silent_served c.five_cases.ensures.exclusive _ _ _ _ _ _ c.new-port.ensures.left c.serve_datagrams.result
    c.serve_datagrams.ensures.ok).0

pub returns-clause-rows : goal.returns-clause-rows
returns-clause-rows g c =
    (silent_served c.five_cases.ensures.exclusive _ _ _ _ _ _ c.new-port.ensures.left c.serve_datagrams.result
    c.serve_datagrams.ensures.ok).1
