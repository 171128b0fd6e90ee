use Rattle.example_registry.proofs.Streams.{nothing}
use Rattle.example_registry.proofs.served.serves_nothing.Goals as goal

pub returns-clause-counted : goal.returns-clause-counted
returns-clause-counted g c =
    let laws = c.no_record_begins_another.ensures in
    (nothing laws.longest laws.whole _ _ _ _ _ _ _ c.in_ok-served.served c.in_ok-served.ensures.ok
    c.new-reader.ensures.left).0

pub returns-clause-rows : goal.returns-clause-rows
returns-clause-rows g c =
    let laws = c.no_record_begins_another.ensures in
    (nothing laws.longest laws.whole _ _ _ _ _ _ _ c.in_ok-served.served c.in_ok-served.ensures.ok
    c.new-reader.ensures.left).1
