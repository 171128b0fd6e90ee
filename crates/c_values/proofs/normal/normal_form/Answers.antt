-- The source holds the input, and the sink holds nothing at first and hands out what it took.
use Rattle.c_values.proofs.Records.{form_long, form_cut}
use Rattle.c_values.proofs.normal.normal_form.Goals as goal

pub returns-in-Err-TooLong : goal.returns-in-Err-TooLong
returns-in-Err-TooLong c =
    let stops = rw (
      c.new-source.ensures.left,
      c.new-sink.ensures,
      c.in-Err-TooLong.field-0-is,
      c.into_bytes-in-Err-TooLong.ensures,
    ) at c.in-Err-TooLong.ensures.fault in
    form_long _ _ c.args.input.now _ _ c.requires stops

pub returns-in-Err-Truncated : goal.returns-in-Err-Truncated
returns-in-Err-Truncated c =
    let stops = rw (
      c.new-source.ensures.left,
      c.new-sink.ensures,
      c.in-Err-Truncated.field-0-is,
      c.into_bytes-in-Err-Truncated.ensures,
    ) at c.in-Err-Truncated.ensures.fault in
    form_cut _ _ c.args.input.now _ _ c.requires stops
