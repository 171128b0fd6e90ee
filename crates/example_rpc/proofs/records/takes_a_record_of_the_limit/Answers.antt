use Rattle.std.proofs.Common.{refl}
use Rattle.example_rpc.proofs.records.Limited.{is_taken}
use Rattle.example_rpc.proofs.records.takes_a_record_of_the_limit.Goals as goal

pub returns : goal.returns
returns c =
    let start = c.start.ensures in
    is_taken c.too_long_ends_the_stream.ensures.none c.start.result c.feed.new.self _ c.feed.result
    start.limit refl start.taking start.represents c.feed.ensures.feeds c.feed.ensures.reports
