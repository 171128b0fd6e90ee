use Rattle.example_sessions.proofs.Records.{half}
use Rattle.example_sessions.proofs.one.keeps_the_rows_at_half_a_record.Goals as goal

pub returns : goal.returns
returns g c =
    half c.start-session.result c.take_in-taken.new.self c.args.directory.now c.take_in-taken.new.directory
    c.start-session.ensures.reads c.records_are_longest.ensures c.take_in-taken.result c.take_in-taken.ensures.taken
    c.take_in-taken.ensures.fault
