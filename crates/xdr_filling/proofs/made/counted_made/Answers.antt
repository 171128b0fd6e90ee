use Rattle.std.proofs.Common.{◌≡◌, ◌<◌, ◌≤◌, ◌^◌, length, pos, arith, rules}
use Rattle.xdr_units.specs.Numbers.{num4}
use Rattle.xdr_filling.proofs.Making.{counted_nodes}
use Rattle.xdr_filling.proofs.made.counted_made.Goals as goal

pub returns : goal.returns
returns c = λ kinds.
    let few : length c.args.bytes.now ≤ c.args.max = omega arith in
    let low : c.args.max < 2 ^ 32 = omega arith in
    let unit : c.count_unit-length.result ≡ num4 (pos (length c.args.bytes.now)) = search rules in
    counted_nodes kinds c.args.max c.args.bytes.now c.count_unit-length.result few low c.every_u8_is_a_byte.ensures unit
