use Rattle.example_registry.proofs.Streams.{unwritten}
use Rattle.example_registry.proofs.served.writes_nothing_for_nothing.Goals as goal

pub returns : goal.returns
returns g c =
    let laws = c.no_record_begins_another.ensures in
    unwritten laws.longest laws.whole _ _ _ _ _ _ _ _ c.in_ok-serve.ensures.ok c.new-reader.ensures.left
    c.new-writer.ensures _ c.into_bytes.ensures
