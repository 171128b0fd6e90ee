use Rattle.std.proofs.lemmas.List.{take_rest}
use Rattle.capture_records.proofs.Fronts.{record_front}
use Rattle.capture_records.proofs.finding.begins_record.Goals as goal

pub returns : goal.returns
returns c =
    let least = c.least_of.ensures in
    record_front c.args.bytes.now _ c.word_at-header.result c.least_of.result (take_rest c.args.bytes.now 4)
    c.if-bytes-lt-LOOKED.false c.word_at-header.ensures c.if-header-lt-LAST.false c.if-size-ne0.false
    c.if-size-gt-MOST_RECORD.false (c.begins_message.ensures.0 c.if-not-begins_message.false) least.call
    least.accepted least.denied
