use Rattle.std.proofs.Common.{refl}
use Rattle.example_rpc.proofs.records.Put.{put, put_refused}
use Rattle.example_rpc.proofs.records.puts_the_content_into_a_buffer.Goals as goal

pub returns-clause-whole : goal.returns-clause-whole
returns-clause-whole c =
    let start = c.start-reader.ensures in
    let fed = c.feed_into.ensures in
    put c.no_record_begins_another.ensures.apart c.start-reader.result c.feed_into.new.self _
    c.feed_into.new.buffer.items c.feed_into.result start.limit refl start.represents fed.fills fed.reports fed.content

pub returns-clause-refused : goal.returns-clause-refused
returns-clause-refused c =
    let start = c.start-reader.ensures in
    let fed = c.feed_into.ensures in
    put_refused c.too_long_ends_the_stream.ensures.none c.start-reader.result c.feed_into.new.self _
    c.feed_into.new.buffer.items c.feed_into.result start.limit refl start.taking start.represents fed.fills fed.reports
