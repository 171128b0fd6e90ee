use Rattle.std.proofs.Common.{◌≡◌, ◌<◌, length, refl, arith}
use Rattle.xdr_units.specs.Numbers.{padded}
use Rattle.xdr_filling.proofs.Making.{opaque_node}
use Rattle.xdr_filling.proofs.made.fixed_made.Goals as goal

pub returns : goal.returns
returns c = λ kinds.
    let some : 0 < c.args.size = omega arith in
    let same : length c.args.bytes.now ≡ c.args.size = omega arith in
    opaque_node kinds c.args.size c.args.bytes.now (padded c.args.bytes.now) some same c.every_u8_is_a_byte.ensures refl
