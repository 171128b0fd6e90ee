use Rattle.std.proofs.Common.{◌≡◌, ℕ, List, true, arith, ap, ◌∙◌}
use Rattle.xdr_json_reader.specs.Private.Look.{seen}
use Rattle.xdr_json.specs.Spelled.{is_hex}
use Rattle.xdr_json_reader.proofs.Leaves.{took_opaque}
use Rattle.xdr_json_reader.proofs.reading_content.read_opaque.Goals as goal

pub returns-in-Ok-push_padded : goal.returns-in-Ok-push_padded
returns-in-Ok-push_padded c =
    let j = seen c.args.json in
    let hex : is_hex c.as_slice-content.result.now (seen c.args.json) ≡ true =
    ap (λ (bs : List ℕ). is_hex bs j) c.as_slice-content.ensures.value ∙ c.in-Ok.ensures.found in
    took_opaque c.args.size (seen c.args.json) c.as_slice-content.result.now c.args.out.now.items
    c.push_padded.new.out.items (omega (arith, c.as_slice-content.ensures.len)) c.every_u8_is_a_byte.ensures hex
    c.in-Ok-push_padded.ensures.ok
