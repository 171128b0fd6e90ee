use Rattle.std.proofs.Common.{refl}
use Rattle.example_rpc.proofs.records.Refused.{is_refused}
use Rattle.example_rpc.proofs.records.refuses_a_header_above_the_limit.Goals as goal

pub returns : goal.returns
returns c =
    let start = c.start.ensures in
    is_refused c.start.result c.feed.new.self _ c.feed.result
    start.limit refl start.taking
    start.represents c.feed.ensures.feeds c.feed.ensures.reports
