use Rattle.example_rpc.proofs.records.Handed.{handed}
use Rattle.example_rpc.proofs.records.hands_out_the_content.Goals as goal

pub returns-in-Ok-Whole : goal.returns-in-Ok-Whole
returns-in-Ok-Whole c =
    let feeds = rw c.in-Ok-Whole.field-0-is at c.in-Ok-Whole.ensures.feeds in
    handed c.no_record_begins_another.ensures.apart c.start-reader.result c.feed.new.self c.in-Ok-Whole.field-0-0
    c.take.result c.start-reader.ensures.represents feeds.2 c.take.ensures.content
