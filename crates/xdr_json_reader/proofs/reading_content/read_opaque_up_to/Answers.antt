use Rattle.std.proofs.Common.{◌≡◌, ◌^◌, ℕ, List, true, arith, length, ap, ◌∙◌, le-leb, lt-ltb}
use Rattle.std.specs.Prelude.{nat_le, nat_lt}
use Rattle.std.proofs.lemmas.Bool.{and_from}
use Rattle.xdr_types.specs.Fits.{is_length}
use Rattle.xdr_json_reader.specs.Private.Look.{seen}
use Rattle.xdr_json.specs.Spelled.{is_hex}
use Rattle.xdr_json_reader.proofs.Leaves.{took_opaque_up_to}
use Rattle.xdr_json_reader.proofs.reading_content.read_opaque_up_to.Goals as goal

pub returns-in-Ok-put_counted : goal.returns-in-Ok-put_counted
returns-in-Ok-put_counted c =
    let j = seen c.args.json in
    let n = length c.as_slice-content.result.now in
    let hex : is_hex c.as_slice-content.result.now (seen c.args.json) ≡ true =
    ap (λ (bs : List ℕ). is_hex bs j) c.as_slice-content.ensures.value ∙ c.in-Ok.ensures.found in
    let short : is_length c.args.max (length c.as_slice-content.result.now) ≡ true =
    and_from (nat_le (length c.as_slice-content.result.now) c.args.max)
    (nat_lt (length c.as_slice-content.result.now) (2 ^ 32))
    (le-leb (length c.as_slice-content.result.now) c.args.max (omega (arith, c.as_slice-content.ensures.len)))
    (lt-ltb (length c.as_slice-content.result.now) (2 ^ 32) (omega (arith, c.as_slice-content.ensures.len))) in
    took_opaque_up_to c.args.max (seen c.args.json) c.as_slice-content.result.now c.args.out.now.items
    c.put_counted.new.out.items short c.every_u8_is_a_byte.ensures hex c.in-Ok-put_counted.ensures
