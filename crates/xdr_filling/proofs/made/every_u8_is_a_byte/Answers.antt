use Rattle.std.proofs.Common.{arith}
use Rattle.xdr_types.proofs.Content.{bytes-by-index}
use Rattle.xdr_filling.proofs.made.every_u8_is_a_byte.Goals as goal

pub returns : goal.returns
returns c = bytes-by-index c.args.bytes.now (λ i within. omega (arith, c.type_inv.bytes i))
