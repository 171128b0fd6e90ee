use Rattle.example_registry.proofs.Streams.{too_long, not_cut}
use Rattle.example_registry.proofs.served.refuses_a_record_above_the_limit.Goals as goal

pub returns-clause-refused : goal.returns-clause-refused
returns-clause-refused g c =
    too_long c.too_long_ends_the_stream.ensures.none _ _ _ _ _ _ _ c.serve.result c.serve.ensures.ok
    c.new-reader.ensures.left

pub returns-clause-whole : goal.returns-clause-whole
returns-clause-whole g c = λ e.
    let stops = rw e at c.serve.ensures.fault in
    not_cut _ _ _ _ _ _ _ c.args.place stops c.new-reader.ensures.left
