use Rattle.std.proofs.lemmas.List.{take_rest}
use Rattle.capture_records.proofs.Fronts.{fragment_is}
use Rattle.capture_records.proofs.finding.begins_fragment.Goals as goal

pub returns : goal.returns
returns c =
    fragment_is c.args.bytes.now _ c.word_at-size.result c.begins_message.result c.if-bytes-lt-LOOKED.false
    c.word_at-size.ensures c.word_at-size.type_inv c.if-size-lt12.false c.if-size-gt-MOST_RECORD.false
    (take_rest c.args.bytes.now 4) c.begins_message.ensures
