use Rattle.std.proofs.Common.{◌≡◌, true, length, arith, le-leb, lt-ltb}
use Rattle.std.specs.Prelude.{nat_le, nat_lt, ◌^◌}
use Rattle.std.proofs.lemmas.Bool.{and_from}
use Rattle.xdr_types.specs.Fits.{is_length, are_bytes}
use Rattle.xdr_json_reader.proofs.reading_content.put_text.Goals as goal

pub returns-in-Ok : goal.returns-in-Ok
returns-in-Ok c =
    let bs = c.args.bytes.now in
    let short : is_length c.args.max (length c.args.bytes.now) ≡ true =
    and_from (nat_le (length c.args.bytes.now) c.args.max) (nat_lt (length c.args.bytes.now) (2 ^ 32))
    (le-leb (length c.args.bytes.now) c.args.max (omega arith))
    (lt-ltb (length c.args.bytes.now) (2 ^ 32) (omega arith)) in (
      and_from (is_length c.args.max (length bs)) (are_bytes bs) short c.every_u8_is_a_byte.ensures,
      c.in-Ok.ensures,
    )
