-- What the reader does is what the handle's contract says.
use Rattle.c_records.proofs.Feeds.{more, whole, refused}
use Rattle.c_records.proofs.feeding.feed_to.Goals as goal

pub returns-in-Ok-More : goal.returns-in-Ok-More
returns-in-Ok-More c =
    let f = rw c.in-Ok-More.field-0-is at c.in-Ok-More.ensures in
    let buffer = c.feed_into.new.buffer.items in
    more _ _ c.args.state.now.waits c.args.state.now.last.items buffer _ buffer c.if-state.false f.limit f.fills
    f.reports f.stays

pub returns-in-Ok-Whole : goal.returns-in-Ok-Whole
returns-in-Ok-Whole c =
    let f = rw c.in-Ok-Whole.field-0-is at c.in-Ok-Whole.ensures in
    whole _ _ c.args.state.now.waits c.args.state.now.last.items _ _ _ c.if-state.false f.limit f.fills f.content
    f.stays

pub returns-in-Err : goal.returns-in-Err
returns-in-Err c =
    let f = c.in-Err.ensures in
    let buffer = c.feed_into.new.buffer.items in
    refused _ _ c.args.state.now.waits c.args.state.now.last.items buffer _ buffer c.in-Err.fault c.if-state.false
    f.limit f.fills f.reports f.stays
